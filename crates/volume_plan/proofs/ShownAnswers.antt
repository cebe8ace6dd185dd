-- A change is answered by the shown tree as by the tree that a volume stands for.
use Rattle.std.proofs.Common.{◌≡◌, ℕ, true, List, ap}
use Rattle.cal_base.specs.declared.identity.ClientId.{ClientId}
use Rattle.tree_law.specs.Answer.{answer, made, moved}
use Rattle.tree_law.specs.Tree.{Tree}
use Rattle.tree_law.specs.declared.call.Call.{Call}
use Rattle.tree_law.specs.declared.call.Call.TheVariants.{Create, Mkdir, Unlink, Rmdir, Rename, Open, Close, Read, Write, Truncate, Stat, Readdir, Fsync}
use Rattle.tree_law.specs.Change.{is_change}
use Rattle.volume.specs.Volume.{Volume}
use Rattle.volume_edit.specs.Edit.{IsVolume}
use Rattle.volume_plan.specs.Shown.{shown}
use Rattle.volume_plan.proofs.Fits.{StandForNodes}
use Rattle.volume_plan.proofs.Similar.{same_file_named, same_move_of, same_new_place, same_removable}

pub same_answer : (sectors : List (List ℕ)) (v : Volume) (tree : Tree) → IsVolume v → StandForNodes sectors v tree → (client : ClientId) (call : Call) → is_change call ≡ true → answer (shown v) client call ≡ answer tree client call
same_answer sectors v tree is stand client (Create path) change = ap made (same_new_place sectors v tree is stand path).same
same_answer sectors v tree is stand client (Mkdir path) change = ap made (same_new_place sectors v tree is stand path).same
same_answer sectors v tree is stand client (Unlink path) change = ap made (same_file_named sectors v tree is stand path).same
same_answer sectors v tree is stand client (Rmdir path) change = ap made (same_removable sectors v tree is stand path).same
same_answer sectors v tree is stand client (Rename path goal) change = ap moved (same_move_of sectors v tree is stand path goal).same
same_answer sectors v tree is stand client (Open path mode) change = absurd (cc)
same_answer sectors v tree is stand client (Close fd) change = absurd (cc)
same_answer sectors v tree is stand client (Read fd offset len) change = absurd (cc)
same_answer sectors v tree is stand client (Write fd offset bytes) change = absurd (cc)
same_answer sectors v tree is stand client (Truncate fd size) change = absurd (cc)
same_answer sectors v tree is stand client (Stat path) change = absurd (cc)
same_answer sectors v tree is stand client (Readdir path) change = absurd (cc)
same_answer sectors v tree is stand client (Fsync fd) change = absurd (cc)
