-- The edit of each plan keeps a volume within its grammar.
use Rattle.std.proofs.Common.{ℕ, List}
use Rattle.cal_base.specs.declared.identity.ClientId.{ClientId}
use Rattle.cal_base.specs.declared.identity.Ino.{Ino}
use Rattle.inode.specs.declared.inode.Kind.TheVariants.{File, Dir}
use Rattle.tree_law.specs.Needs.{touches}
use Rattle.tree_law.specs.declared.call.Call.{Call}
use Rattle.tree_law.specs.declared.call.Call.TheVariants.{Create, Mkdir, Unlink, Rmdir, Rename, Open, Close, Read, Write, Truncate, Stat, Readdir, Fsync}
use Rattle.tree_law.specs.declared.reply.Why.TheVariants.{NoEnt}
use Rattle.volume.specs.Volume.{Volume}
use Rattle.volume_edit.specs.Edit.{IsEdit, IsVolume}
use Rattle.tree_law.specs.Change.{HasPaths}
use Rattle.volume_plan.specs.Plans.{plan}
use Rattle.volume_plan.specs.Shown.{shown}
use Rattle.volume_plan.proofs.PlanEdits.{InRange, make_edit, standing_edit}
use Rattle.volume_plan.proofs.RemovalEdits.{rmdir_edit, unlink_edit}
use Rattle.volume_plan.proofs.RenameEdits.{rename_edit}

pub plan_edit : (v : Volume) (client : ClientId) (number : ℕ) (call : Call) (opened : List Ino) → IsVolume v → InRange client number → HasPaths call → IsEdit v (plan v client number call opened).edit
plan_edit v client number (Create path) opened is r p = make_edit v client number path File is r p tt
plan_edit v client number (Mkdir path) opened is r p = make_edit v client number path Dir is r p tt
plan_edit v client number (Unlink path) opened is r p = unlink_edit v client number opened (touches (shown v) (Unlink path)) path is r
plan_edit v client number (Rmdir path) opened is r p = rmdir_edit v client number opened (touches (shown v) (Rmdir path)) path is r
plan_edit v client number (Rename path goal) opened is r p = rename_edit v client number opened (touches (shown v) (Rename path goal)) path goal is r p.1
plan_edit v client number (Open path mode) opened is r p = standing_edit v client number NoEnt is r tt
plan_edit v client number (Close fd) opened is r p = standing_edit v client number NoEnt is r tt
plan_edit v client number (Read fd offset len) opened is r p = standing_edit v client number NoEnt is r tt
plan_edit v client number (Write fd offset bytes) opened is r p = standing_edit v client number NoEnt is r tt
plan_edit v client number (Truncate fd size) opened is r p = standing_edit v client number NoEnt is r tt
plan_edit v client number (Stat path) opened is r p = standing_edit v client number NoEnt is r tt
plan_edit v client number (Readdir path) opened is r p = standing_edit v client number NoEnt is r tt
plan_edit v client number (Fsync fd) opened is r p = standing_edit v client number NoEnt is r tt
