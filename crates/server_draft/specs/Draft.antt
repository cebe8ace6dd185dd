-- A draft that follows the law's server.
use Rattle.std.specs.Prelude.{◌≡◌, ◌++◌, ◌+◌, ◌<◌, ◌≤◌, ℕ, Bool, false, List, length}
use Rattle.cal_base.specs.Limits as limits
use Rattle.message.specs.declared.message.Message.{Message}
use Rattle.token_kind.specs.declared.blocker.Blocker.{Blocker}
use Rattle.volume.specs.Stands.{AreBlocksKept}
use Rattle.volume_plan.specs.Plans.{free_count}
use Rattle.cluster_law.specs.Asking.{was_told}
use Rattle.cluster_law.specs.Blocking.{reserved}
use Rattle.cluster_law.specs.Lists.{Each}
use Rattle.cluster_law.specs.Removing.{has_removed}
use Rattle.cluster_law.specs.ServerRules.{ActsWell, EachAct, Occasion}
use Rattle.cluster_law.specs.ServerState.{ServerState, after_acts}
use Rattle.server_desk.specs.Desk.{IsLike}
use Rattle.server_draft.specs.Acts.{acts_of, told_to}
use Rattle.server_draft.specs.declared.act.Act.{Act}
use Rattle.server_draft.specs.declared.draft.Draft.{Draft}

-- 16 blocks are free for each Data Write hold of the table, while reports come in too
abbrev pub HasSpace : ServerState → Type 0
HasSpace server = reserved server ≤ free_count server.volume

-- the law's server, once the acts of a draft are done
abbrev pub reached : ℕ → ServerState → Draft → ServerState
reached view start draft = after_acts start (acts_of view draft.acts)

-- a draft follows a server of the law from the start of a step: what it knows is what that server knows once the
-- acts are done, each act is as the law asks where it stands, each block of the volume is in one use, and blocks
-- are kept for what is held
pub record Follows (view : ℕ) (o : Occasion) (start : ServerState) (draft : Draft) : Type 0 where
  pub like : IsLike draft.desk (reached view start draft)
  pub volume : draft.image ≡ (reached view start draft).volume
  pub well : EachAct start (ActsWell o start) (acts_of view draft.acts)
  pub kept : AreBlocksKept draft.image
  pub space : HasSpace (reached view start draft)

-- what a server is like from which a draft begins
pub record Begins (start : ServerState) (draft : Draft) : Type 0 where
  pub like : IsLike draft.desk start
  pub volume : draft.image ≡ start.volume
  pub kept : AreBlocksKept draft.image
  pub space : HasSpace start

-- acts were put to others, and none was taken away
pub record Grows (old new : List Act) : Type 0 where
  pub more : List Act
  pub is : new ≡ old ++ more

-- a hold is of a client of the cluster and of an inode of the volume
pub record IsWithin (blocker : Blocker) : Type 0 where
  pub client : blocker.client.0 < limits.clients
  pub ino : blocker.ino.0 < limits.inodes

-- what a client is told, and the requests that wait: each of them may be answered to it
abbrev pub told_or_waiting : ℕ → Draft → ℕ
told_or_waiting client draft = told_to client draft.acts + length draft.desk.requests

-- acts were put to others: they tell nothing but such messages, and remove nothing
pub record TellsOnly (messages : List Message) (old new : List Act) : Type 0 where
  pub grows : Grows old new
  pub others : (view client : ℕ) (test : Message → Bool) → Each (λ message. test message ≡ false) messages → was_told client test (acts_of view new) ≡ was_told client test (acts_of view old)
  pub removed : (view : ℕ) → has_removed (acts_of view new) ≡ has_removed (acts_of view old)
