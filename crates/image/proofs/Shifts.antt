-- A move that the tree of an image allows is between directories of the image.
use Rattle.std.proofs.Common.{◌≡◌, ◌<◌, ℕ, false, List, length, Option, Some, None, IfSome, Ok, ap, arith, ◌∙◌}
use Rattle.cal_base.specs.Limits as limits
use Rattle.cal_base.specs.declared.identity.Ino.{Ino}
use Rattle.tree_law.specs.Rename.{move_of}
use Rattle.tree_law.specs.Resolve.{last_of}
use Rattle.tree_law.specs.declared.rename.Move.{Move}
use Rattle.volume.specs.Volume.{Volume, slots_of}
use Rattle.volume_edit.specs.Edit.{IsVolume}
use Rattle.tree_law.specs.Needs.{Touch}
use Rattle.cal_base.specs.declared.identity.ClientId.{ClientId}
use Rattle.volume_plan.specs.Plans.{Plan, if_room, if_there, moving, moving_by, place_of}
use Rattle.volume_plan.specs.Shown.{shown}
use Rattle.volume_plan.proofs.EditParts.{directory_within}
use Rattle.volume_plan.proofs.MoveEdits.{Lands, moves}
use Rattle.volume_plan.proofs.RemovalEdits.{entry_is, entry_within}
use Rattle.volume_plan.proofs.RenameEdits.{is_there}

-- the directories and the target of a move are inodes, and its entry stands
pub record Shifts (v : Volume) (move : Move) (name : List ℕ) : Type 0 where
  pub from : move.from.0 < limits.inodes
  pub to : move.to.0 < limits.inodes
  pub target : IfSome move.replaced (λ ino. ino.0 < limits.inodes)
  pub within : place_of (slots_of v move.from.0) name < length (slots_of v move.from.0)

target_within : (v : Volume) (move : Move) (goal : List ℕ) (target : Option Ino) → Lands v move goal target → IfSome target (λ ino. ino.0 < limits.inodes)
target_within v move goal (Some ino) lands = (let few = (entry_is v move.to goal ino lands.named).to_511 in omega arith)
target_within v move goal None lands = tt

pub shifts : (v : Volume) (path goal : List (List ℕ)) (move : Move) → IsVolume v → if_there v (move_of (shown v) path goal) ≡ Ok move → move.is_same ≡ false → Shifts v move (last_of path)
shifts v path goal move is e differ =
    let t = is_there v (move_of (shown v) path goal) move e in
    let m = moves v path goal move is t.is differ (t.some differ) in
    record {
      from = directory_within v move.from.0 is m.source.listed.kind;
      to = directory_within v move.to.0 is m.to.kind;
      target = target_within v move (last_of goal) move.replaced m.lands;
      within = entry_within v move.from (last_of path) move.ino m.source;
    }

-- a move to another entry is planned if there is room
pub planned : (v : Volume) (client : ClientId) (number : ℕ) (opened : List Ino) (touched : List Touch) (move : Move) (name goal named goals : List ℕ) (p result : Plan) → move.is_same ≡ false
    → named ≡ name → goals ≡ goal → p ≡ moving v client number opened touched move named goals → result ≡ if_room v client number p → result ≡ moving_by v client number opened touched (Ok move) name goal
planned v client number opened touched move name goal named goals p result differ same_name same_goal is e =
    rw differ (e ∙ ap (if_room v client number) (is ∙ ap (λ (n : List ℕ). moving v client number opened touched move n goals) same_name ∙ ap (λ (g : List ℕ). moving v client number opened touched move name g) same_goal))
