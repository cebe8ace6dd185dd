-- A change that is planned.
use Rattle.std.specs.Prelude.{◌≡◌, [], ℕ, Option, Some, None, Result, Ok, Err}
use Rattle.cal_base.specs.declared.identity.ClientId.{ClientId}
use Rattle.cal_base.specs.declared.identity.Ino.{Ino}
use Rattle.image.specs.Planning.{plan_of}
use Rattle.image.specs.declared.plans.Planned.{Planned}
use Rattle.tree_law.specs.Rename.{move_of}
use Rattle.tree_law.specs.Resolve.{file_named, removable}
use Rattle.tree_law.specs.declared.call.Call.{Call}
use Rattle.tree_law.specs.declared.call.Call.TheVariants.{Unlink, Rmdir, Rename}
use Rattle.tree_law.specs.declared.rename.Move.{Move}
use Rattle.tree_law.specs.declared.reply.Why.{Why}
use Rattle.volume.specs.Volume.{Volume}
use Rattle.volume.specs.Stands.{AreBlocksKept}
use Rattle.volume_edit.specs.Blocks.{TakesFree}
use Rattle.volume_edit.specs.Edit.{IsEdit, IsVolume}
use Rattle.volume_edit.specs.Homes.{AreHomes}
use Rattle.volume_plan.specs.Shown.{shown}
use Rattle.cluster_law.specs.Blocking as law
use Rattle.server_draft.specs.declared.draft.Draft.{Draft}
use Rattle.server_line.specs.Known.{known}

-- a change is planned as the law plans it: its edit keeps the volume within its grammar and takes free blocks alone,
-- and the homes spell it
pub record IsPlanned (draft : Draft) (client : ClientId) (number : ℕ) (call : Call) (planned : Planned) : Type 0 where
  pub plan_is : plan_of planned.plan ≡ law.planned (known draft []) client number call
  pub allowed : IsEdit draft.image planned.plan.edit
  pub takes : AreBlocksKept draft.image → TakesFree draft.image planned.plan.edit
  pub homes : AreHomes draft.image planned.plan.edit planned.txn
  pub volume : IsVolume draft.image

-- the inode that is found, or that a move replaces
abbrev pub inode_found : Result Ino Why → Option Ino
inode_found (Ok ino) = Some ino
inode_found (Err why) = None

abbrev pub inode_replaced : Result Move Why → Option Ino
inode_replaced (Ok move) = move.replaced
inode_replaced (Err why) = None

-- the inode that a change takes its last name from, if there is one: what it removes or replaces
abbrev pub unnamed_by : Volume → Call → Option Ino
unnamed_by v (Unlink path) = inode_found (file_named (shown v) path)
unnamed_by v (Rmdir path) = inode_found (removable (shown v) path)
unnamed_by v (Rename path goal) = inode_replaced (move_of (shown v) path goal)
unnamed_by v _ = None
