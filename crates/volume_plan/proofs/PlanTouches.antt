-- A plan touches what the call touches in the tree.
use Rattle.std.proofs.Common.{◌≡◌, ◌≢◌, ◌++◌, ℕ, Bool, true, false, nat_lt, List, [], ◌∷◌, Option, Some, None, Result, Ok, Err, refl, sym, ap, ◌∙◌, if◌then◌else◌}
use Rattle.cal_base.specs.declared.identity.ClientId.{ClientId}
use Rattle.cal_base.specs.declared.identity.Ino.{Ino}
use Rattle.inode.specs.declared.inode.Kind.{Kind}
use Rattle.inode.specs.declared.inode.Kind.TheVariants.{File, Dir}
use Rattle.tree_law.specs.Legal.{tree_of}
use Rattle.tree_law.specs.Needs.{Touch, touched_names, touched_places, touched_rename, touched_rmdir, touched_target, touched_unlink, touches}
use Rattle.tree_law.specs.Rename.{move_of}
use Rattle.tree_law.specs.Resolve.{file_named, last_of, new_place, parent_of, removable}
use Rattle.tree_law.specs.Tree.{Tree}
use Rattle.tree_law.specs.declared.call.Call.{Call}
use Rattle.tree_law.specs.declared.call.Call.TheVariants.{Create, Mkdir, Unlink, Rmdir, Rename, Open, Close, Read, Write, Truncate, Stat, Readdir, Fsync}
use Rattle.tree_law.specs.declared.entry.Entry.{Entry}
use Rattle.tree_law.specs.declared.rename.Move.{Move}
use Rattle.tree_law.specs.declared.reply.Reply.TheVariants.{Done, Refused}
use Rattle.tree_law.specs.declared.reply.Why.{Why}
use Rattle.tree_law.specs.declared.reply.Why.TheVariants.{NoInode}
use Rattle.volume.specs.Volume.{Volume}
use Rattle.volume_plan.specs.Leads.{Mounted}
use Rattle.volume_plan.specs.Plans.{Plan, free_count, if_room, if_there, least_inode, making, making_at, making_if, moving, moving_by, plan, removing_at, short, standing}
use Rattle.volume_plan.specs.Shown.{shown}
use Rattle.volume_plan.proofs.RefusedCalls.{directory_above, file_above}
use Rattle.volume_plan.proofs.Removals.{stand_nodes}
use Rattle.volume_plan.proofs.Standing.{allowed_move}
use Rattle.volume_plan.proofs.Similar.{same_move_of, same_file_named, same_new_place, same_parent_of, same_removable, same_touches}

-- want of blocks leaves what is touched
room_touches : (v : Volume) (client : ClientId) (number : ℕ) (p : Plan) → (if_room v client number p).touches ≡ p.touches
room_touches v client number p = elim (nat_lt (free_count v) p.needed) as (λ b. (if b then short v client number p.touches p.needed else p).touches ≡ p.touches) [ true ↦ refl | false ↦ refl ]

-- `create`, `mkdir`
made_touches : (v : Volume) (client : ClientId) (number : ℕ) (place : Ino) (name : List ℕ) (kind : Kind) (o : Option ℕ) → (making_if v client number place name kind o).reply ≢ Refused NoInode → (making_if v client number place name kind o).touches ≡ (place, 1) ∷ []
made_touches v client number place name kind None some = absurd (some refl)
made_touches v client number place name kind (Some n) some = room_touches v client number (making v client number place name kind (record { 0 = n }))

making_touches : (v : Volume) (client : ClientId) (number : ℕ) (r : Result Ino Why) (name : List ℕ) (kind : Kind) → (making_at v client number r name kind).reply ≢ Refused NoInode → (making_at v client number r name kind).touches ≡ touched_names r
making_touches v client number (Ok place) name kind some = made_touches v client number place name kind (least_inode v) some
making_touches v client number (Err why) name kind some = refl

-- `unlink`, `rmdir`
removing_touches : (v : Volume) (client : ClientId) (number : ℕ) (opened : List Ino) (touched : List Touch) (place ino : Result Ino Why) (name : List ℕ)
    → ((target : Ino) (why : Why) → ino ≡ Ok target → place ≡ Err why → ⊥) → ((why : Why) → ino ≡ Err why → touched ≡ []) → (removing_at v client number opened touched place ino name).touches ≡ touched
removing_touches v client number opened touched (Ok place) (Ok ino) name above none = refl
removing_touches v client number opened touched (Err why) (Ok ino) name above none = absurd (above ino why refl refl)
removing_touches v client number opened touched (Ok place) (Err why) name above none = sym (none why refl)
removing_touches v client number opened touched (Err first) (Err why) name above none = sym (none why refl)

-- `rename`
moved_touches : (v : Volume) (client : ClientId) (number : ℕ) (opened : List Ino) (touched : List Touch) (move : Move) (name goal : List ℕ) → (move.is_same ≡ true → touched ≡ []) → (moving_by v client number opened touched (Ok move) name goal).touches ≡ touched
moved_touches v client number opened touched move name goal none =
    elim move.is_same as (λ b. move.is_same ≡ b → (if b then standing v client number Done else if_room v client number (moving v client number opened touched move name goal)).touches ≡ touched) [
      | true ↦ λ same. sym (none same)
      | false ↦ λ other. room_touches v client number (moving v client number opened touched move name goal)
    ] refl

moving_touches : (v : Volume) (client : ClientId) (number : ℕ) (opened : List Ino) (touched : List Touch) (r : Result Move Why) (name goal : List ℕ)
    → ((move : Move) → r ≡ Ok move → move.is_same ≡ true → touched ≡ []) → ((why : Why) → r ≡ Err why → touched ≡ []) → (moving_by v client number opened touched r name goal).touches ≡ touched
moving_touches v client number opened touched (Ok move) name goal same none = moved_touches v client number opened touched move name goal (same move refl)
moving_touches v client number opened touched (Err why) name goal same none = sym (none why refl)

same_touched : (tree : Tree) (move : Move) → move.is_same ≡ true → touched_rename tree (Ok move) ≡ []
same_touched tree move same = ap (λ (b : Bool). if b then [] else touched_places move.from move.to ++ touched_target tree move.replaced) same

module _ (sectors : List (List ℕ)) (v : Volume) (history : List Entry) (client : ClientId) (number : ℕ) (opened : List Ino) (m : Mounted sectors v history) where
  abbrev tree : Tree
  tree = tree_of history

  create_touches : (path : List (List ℕ)) (kind : Kind) → (making_at v client number (new_place (shown v) path) (last_of path) kind).reply ≢ Refused NoInode → (making_at v client number (new_place (shown v) path) (last_of path) kind).touches ≡ touched_names (new_place tree path)
  create_touches path kind some =
      making_touches v client number (new_place (shown v) path) (last_of path) kind some
      ∙ ap touched_names (same_new_place sectors v tree m.volume (stand_nodes sectors v history m) path).same

  unlink_touches : (path : List (List ℕ)) → (plan v client number (Unlink path) opened).touches ≡ touches tree (Unlink path)
  unlink_touches path =
      let stand = stand_nodes sectors v history m in
      let up = (same_parent_of sectors v tree m.volume stand path).same in
      let at = (same_file_named sectors v tree m.volume stand path).same in
      removing_touches v client number opened (touches (shown v) (Unlink path)) (parent_of (shown v) path) (file_named (shown v) path) (last_of path)
      (λ target why is above. file_above sectors v history client number opened m path target why (sym at ∙ is) (sym up ∙ above))
      (λ why is. ap (λ (r : Result Ino Why). touched_unlink r (parent_of (shown v) path)) is)
      ∙ same_touches sectors v tree m.volume stand (Unlink path)

  rmdir_touches : (path : List (List ℕ)) → (plan v client number (Rmdir path) opened).touches ≡ touches tree (Rmdir path)
  rmdir_touches path =
      let stand = stand_nodes sectors v history m in
      let up = (same_parent_of sectors v tree m.volume stand path).same in
      let at = (same_removable sectors v tree m.volume stand path).same in
      removing_touches v client number opened (touches (shown v) (Rmdir path)) (parent_of (shown v) path) (removable (shown v) path) (last_of path)
      (λ target why is above. directory_above sectors v history client number opened m path target why (sym at ∙ is) (sym up ∙ above))
      (λ why is. ap (λ (r : Result Ino Why). touched_rmdir r (parent_of (shown v) path)) is)
      ∙ same_touches sectors v tree m.volume stand (Rmdir path)

  rename_touches : (path goal : List (List ℕ)) → (plan v client number (Rename path goal) opened).touches ≡ touches tree (Rename path goal)
  rename_touches path goal =
      let alike = (same_move_of sectors v tree m.volume (stand_nodes sectors v history m) path goal).same ∙ sym (allowed_move sectors v history path goal m) in
      moving_touches v client number opened (touches (shown v) (Rename path goal)) (if_there v (move_of (shown v) path goal)) (last_of path) (last_of goal)
      (λ move is same. ap (touched_rename (shown v)) (alike ∙ is) ∙ same_touched (shown v) move same)
      (λ why is. ap (touched_rename (shown v)) (alike ∙ is))
      ∙ same_touches sectors v tree m.volume (stand_nodes sectors v history m) (Rename path goal)

  -- what a plan touches, where an inode isn't wanting
  pub plan_touches : (call : Call) → (plan v client number call opened).reply ≢ Refused NoInode → (plan v client number call opened).touches ≡ touches tree call
  plan_touches (Create path) some = create_touches path File some
  plan_touches (Mkdir path) some = create_touches path Dir some
  plan_touches (Unlink path) some = unlink_touches path
  plan_touches (Rmdir path) some = rmdir_touches path
  plan_touches (Rename path goal) some = rename_touches path goal
  plan_touches (Open path mode) some = refl
  plan_touches (Close fd) some = refl
  plan_touches (Read fd offset len) some = refl
  plan_touches (Write fd offset bytes) some = refl
  plan_touches (Truncate fd size) some = refl
  plan_touches (Stat path) some = refl
  plan_touches (Readdir path) some = refl
  plan_touches (Fsync fd) some = refl

-- ---- where an inode is wanting nothing is touched

room_wants : (v : Volume) (client : ClientId) (number : ℕ) (p : Plan) → p.reply ≡ Done → (if_room v client number p).reply ≡ Refused NoInode → (if_room v client number p).touches ≡ []
room_wants v client number p done wants =
    elim (nat_lt (free_count v) p.needed) as (λ b. (if b then short v client number p.touches p.needed else p).reply ≡ Refused NoInode → (if b then short v client number p.touches p.needed else p).touches ≡ []) [
      | true ↦ λ e. absurd (cc)
      | false ↦ λ e. (let both : Done ≡ Refused NoInode = sym done ∙ e in absurd (cc))
    ] wants

made_wants : (v : Volume) (client : ClientId) (number : ℕ) (place : Ino) (name : List ℕ) (kind : Kind) (o : Option ℕ) → (making_if v client number place name kind o).reply ≡ Refused NoInode → (making_if v client number place name kind o).touches ≡ []
made_wants v client number place name kind None wants = refl
made_wants v client number place name kind (Some n) wants = room_wants v client number (making v client number place name kind (record { 0 = n })) refl wants

making_wants : (v : Volume) (client : ClientId) (number : ℕ) (r : Result Ino Why) (name : List ℕ) (kind : Kind) → (making_at v client number r name kind).reply ≡ Refused NoInode → (making_at v client number r name kind).touches ≡ []
making_wants v client number (Ok place) name kind wants = made_wants v client number place name kind (least_inode v) wants
making_wants v client number (Err why) name kind wants = refl

removing_wants : (v : Volume) (client : ClientId) (number : ℕ) (opened : List Ino) (touched : List Touch) (place ino : Result Ino Why) (name : List ℕ) → (removing_at v client number opened touched place ino name).reply ≡ Refused NoInode → (removing_at v client number opened touched place ino name).touches ≡ []
removing_wants v client number opened touched (Ok place) (Ok ino) name wants = absurd (cc)
removing_wants v client number opened touched (Err why) (Ok ino) name wants = refl
removing_wants v client number opened touched (Ok place) (Err why) name wants = refl
removing_wants v client number opened touched (Err first) (Err why) name wants = refl

moved_wants : (v : Volume) (client : ClientId) (number : ℕ) (opened : List Ino) (touched : List Touch) (move : Move) (name goal : List ℕ) → (moving_by v client number opened touched (Ok move) name goal).reply ≡ Refused NoInode → (moving_by v client number opened touched (Ok move) name goal).touches ≡ []
moved_wants v client number opened touched move name goal wants =
    elim move.is_same as (λ b. (if b then standing v client number Done else if_room v client number (moving v client number opened touched move name goal)).reply ≡ Refused NoInode → (if b then standing v client number Done else if_room v client number (moving v client number opened touched move name goal)).touches ≡ []) [
      | true ↦ λ e. refl
      | false ↦ λ e. room_wants v client number (moving v client number opened touched move name goal) refl e
    ] wants

moving_wants : (v : Volume) (client : ClientId) (number : ℕ) (opened : List Ino) (touched : List Touch) (r : Result Move Why) (name goal : List ℕ) → (moving_by v client number opened touched r name goal).reply ≡ Refused NoInode → (moving_by v client number opened touched r name goal).touches ≡ []
moving_wants v client number opened touched (Ok move) name goal wants = moved_wants v client number opened touched move name goal wants
moving_wants v client number opened touched (Err why) name goal wants = refl

pub nothing_touched : (v : Volume) (client : ClientId) (number : ℕ) (call : Call) (opened : List Ino) → (plan v client number call opened).reply ≡ Refused NoInode → (plan v client number call opened).touches ≡ []
nothing_touched v client number (Create path) opened wants = making_wants v client number (new_place (shown v) path) (last_of path) File wants
nothing_touched v client number (Mkdir path) opened wants = making_wants v client number (new_place (shown v) path) (last_of path) Dir wants
nothing_touched v client number (Unlink path) opened wants = removing_wants v client number opened (touches (shown v) (Unlink path)) (parent_of (shown v) path) (file_named (shown v) path) (last_of path) wants
nothing_touched v client number (Rmdir path) opened wants = removing_wants v client number opened (touches (shown v) (Rmdir path)) (parent_of (shown v) path) (removable (shown v) path) (last_of path) wants
nothing_touched v client number (Rename path goal) opened wants = moving_wants v client number opened (touches (shown v) (Rename path goal)) (if_there v (move_of (shown v) path goal)) (last_of path) (last_of goal) wants
nothing_touched v client number (Open path mode) opened wants = refl
nothing_touched v client number (Close fd) opened wants = refl
nothing_touched v client number (Read fd offset len) opened wants = refl
nothing_touched v client number (Write fd offset bytes) opened wants = refl
nothing_touched v client number (Truncate fd size) opened wants = refl
nothing_touched v client number (Stat path) opened wants = refl
nothing_touched v client number (Readdir path) opened wants = refl
nothing_touched v client number (Fsync fd) opened wants = refl
