-- Each plan keeps the names of a volume.
use Rattle.std.proofs.Common.{◌≡◌, ◌≢◌, ◌⊎◌, ◌∷◌, [], inl, inr, ℕ, Bool, true, false, nat_lt, List, Option, Some, None, IfSome, Result, Ok, Err, is_some, refl, sym, ap, subst, if◌then◌else◌}
use Rattle.cal_base.specs.declared.directory_entry.EntryKind.TheVariants.{File as IsFile}
use Rattle.cal_base.specs.declared.identity.ClientId.{ClientId}
use Rattle.cal_base.specs.declared.identity.Ino.{Ino}
use Rattle.inode.specs.declared.inode.Kind.{Kind}
use Rattle.inode.specs.declared.inode.Kind.TheVariants.{Free, File, Dir}
use Rattle.token_kind.specs.declared.flush.Flush.{Flush}
use Rattle.tree_facts.proofs.Entries.{NamesIt}
use Rattle.tree_facts.proofs.Moves.{Goes, IsMove, moves_by, replaced_stood, same_move}
use Rattle.tree_facts.proofs.Paths.{judged_directory, judged_empty, judged_file, last_looked}
use Rattle.tree_law.specs.Needs.{Touch, touches}
use Rattle.tree_law.specs.PartOf.{kind_of}
use Rattle.tree_law.specs.Rename.{move_of}
use Rattle.tree_law.specs.Resolve.{file_named, last_of, new_place, parent_of, prefix_of, removable, resolved}
use Rattle.tree_law.specs.Tree.{node_at, root}
use Rattle.tree_law.specs.declared.call.Call.{Call}
use Rattle.tree_law.specs.declared.call.Call.TheVariants.{Create, Mkdir, Unlink, Rmdir, Rename, Open, Close, Read, Write, Truncate, Stat, Readdir, Fsync}
use Rattle.tree_law.specs.declared.rename.Move.{Move}
use Rattle.tree_law.specs.declared.reply.Reply.TheVariants.{Done}
use Rattle.tree_law.specs.declared.reply.Why.{Why}
use Rattle.volume.specs.Volume.{Volume}
use Rattle.volume_edit.specs.Edit.{IsVolume, edited, inode_at}
use Rattle.volume_edit.specs.declared.edit.SlotEdit.{SlotEdit}
use Rattle.volume_plan.specs.Flushing.{flush_of}
use Rattle.volume_plan.specs.Plans.{Plan, free_count, if_room, if_there, least_inode, making, making_at, making_if, moving, moving_by, plan, reap_of, removing, removing_at, short, slot_alone, standing}
use Rattle.volume_plan.specs.Shown.{shown, shown_as}
use Rattle.volume_plan.proofs.EditParts.{least_is}
use Rattle.volume_plan.proofs.PlanEdits.{IsMade}
use Rattle.volume_plan.proofs.RemovalEdits.{NamedIn, named_in, root_kind}
use Rattle.volume_plan.proofs.RenameEdits.{is_there}
use Rattle.volume_names.specs.Named.{AreNamed}
use Rattle.volume_names.proofs.Kept.{names_kept, seen_then}
use Rattle.volume_names.proofs.Moving.{Renames, making_keeps, moving_keeps, removing_keeps}
use Rattle.volume_names.proofs.Slots.{IsSeen, slots_named}

-- a slot has no part in names
pub alone_named : (v : Volume) (slot : SlotEdit) → AreNamed v → AreNamed (edited v (slot_alone slot))
alone_named v slot all = record { stand = all.stand; once = all.once; unrooted = all.unrooted }

room_named : (v : Volume) (client : ClientId) (number : ℕ) (p : Plan) → AreNamed v → AreNamed (edited v p.edit) → AreNamed (edited v (if_room v client number p).edit)
room_named v client number p all kept = elim (nat_lt (free_count v) p.needed) as (λ b. AreNamed (edited v (if b then short v client number p.touches p.needed else p).edit)) [
  | true ↦ alone_named v _ all
  | false ↦ kept
]

-- ---- `create`, `mkdir`

made_named : (v : Volume) (client : ClientId) (number : ℕ) (place : Ino) (name : List ℕ) (kind : Kind) (o : Option ℕ) → IsVolume v → AreNamed v → IsMade kind → least_inode v ≡ o → AreNamed (edited v (making_if v client number place name kind o).edit)
made_named v client number place name kind None is all made none = alone_named v _ all
made_named v client number place name kind (Some ino) is all made found =
    let ready : Plan = making v client number place name kind (record { 0 = ino }) in
    let slots = slots_named v is all in
    room_named v client number ready all (names_kept v ready.edit is slots (making_keeps v client number place name kind ino is slots made (least_is v ino is found)))

make_named : (v : Volume) (client : ClientId) (number : ℕ) (at : Result Ino Why) (name : List ℕ) (kind : Kind) → IsVolume v → AreNamed v → IsMade kind → AreNamed (edited v (making_at v client number at name kind).edit)
make_named v client number (Ok place) name kind is all made = made_named v client number place name kind (least_inode v) is all made refl
make_named v client number (Err why) name kind is all made = alone_named v _ all

-- ---- `unlink`, `rmdir`

removed_named : (v : Volume) (client : ClientId) (number : ℕ) (opened : List Ino) (touched : List Touch) (at gone : Result Ino Why) (name : List ℕ) → IsVolume v → AreNamed v
    → ((place ino : Ino) → at ≡ Ok place → gone ≡ Ok ino → NamedIn v place name ino) → AreNamed (edited v (removing_at v client number opened touched at gone name).edit)
removed_named v client number opened touched (Ok place) (Ok ino) name is all there =
    let slots = slots_named v is all in
    names_kept v (removing v client number opened touched place ino name).edit is slots (removing_keeps v client number opened touched place ino name slots (there place ino refl refl))
removed_named v client number opened touched (Err why) (Ok ino) name is all there = alone_named v _ all
removed_named v client number opened touched (Ok place) (Err why) name is all there = alone_named v _ all
removed_named v client number opened touched (Err other) (Err why) name is all there = alone_named v _ all

-- what a path names has its last name
last_named : (v : Volume) (name : List ℕ) (names : List (List ℕ)) (place ino : Ino) → IsVolume v → parent_of (shown v) (name ∷ names) ≡ Ok place → resolved (shown v) (name ∷ names) ≡ Ok ino → NamedIn v place (last_of (name ∷ names)) ino
last_named v name names place ino is up found =
    let d = judged_directory (shown v) (resolved (shown v) (prefix_of (name ∷ names))) place up in
    named_in v place (last_of (name ∷ names)) ino is (last_looked (shown v) name names place ino d.0 found)

file_at : (v : Volume) (path : List (List ℕ)) (place ino : Ino) → IsVolume v → parent_of (shown v) path ≡ Ok place → file_named (shown v) path ≡ Ok ino → NamedIn v place (last_of path) ino
file_at v [] place ino is up found =
    let f = judged_file (shown v) (resolved (shown v) []) ino found in
    let same : root ≡ ino = (let both : Ok root ≡ Ok ino = f.0 in cc) in
    let kind : kind_of (node_at (shown v) root) ≡ Some IsFile = subst (λ (i : Ino). kind_of (node_at (shown v) i) ≡ Some IsFile) (sym same) f.1 in
    let dir = root_kind v is in
    absurd (cc)
file_at v (name ∷ names) place ino is up found = last_named v name names place ino is up (judged_file (shown v) (resolved (shown v) (name ∷ names)) ino found).0

directory_at : (v : Volume) (path : List (List ℕ)) (place ino : Ino) → IsVolume v → parent_of (shown v) path ≡ Ok place → removable (shown v) path ≡ Ok ino → NamedIn v place (last_of path) ino
directory_at v [] place ino is up found = absurd (cc)
directory_at v (name ∷ names) place ino is up found = last_named v name names place ino is up (judged_empty (shown v) (resolved (shown v) (name ∷ names)) ino found)

-- ---- `rename`

named_target : (v : Volume) (to : Ino) (goal : List ℕ) (replaced : Option Ino) → IsVolume v → IfSome replaced (NamesIt (node_at (shown v) to) goal) → IfSome replaced (NamedIn v to goal)
named_target v to goal None is stood = tt
named_target v to goal (Some target) is stood = named_in v to goal target is stood

two_names : (v : Volume) (path goal : List (List ℕ)) (move : Move) → move.is_same ≡ false → (same_move move.ino move.from move.to ≡ move) ⊎ Goes (shown v) path goal move.ino move.from move.to move → move.from.0 ≡ move.to.0 → last_of path ≢ last_of goal
two_names v path goal move differ (inl same) = (let both : true ≡ move.is_same = ap (λ (m : Move). m.is_same) same in absurd (cc))
two_names v path goal move differ (inr g) = g.apart

renames : (v : Volume) (path goal : List (List ℕ)) (move : Move) → IsVolume v → move.is_same ≡ false → IsMove (shown v) path goal move → Renames v move (last_of path) (last_of goal)
renames v path goal move is differ m = record {
  source = named_in v move.from (last_of path) move.ino is m.named;
  target = named_target v move.to (last_of goal) move.replaced is (replaced_stood (shown v) path goal move m);
  apart = two_names v path goal move differ m.goes;
}

moved_named : (v : Volume) (client : ClientId) (number : ℕ) (opened : List Ino) (touched : List Touch) (r : Result Move Why) (name goal : List ℕ) → IsVolume v → AreNamed v
    → ((move : Move) → r ≡ Ok move → move.is_same ≡ false → Renames v move name goal) → AreNamed (edited v (moving_by v client number opened touched r name goal).edit)
moved_named v client number opened touched (Err why) name goal is all there = alone_named v _ all
moved_named v client number opened touched (Ok move) name goal is all there =
    let ready : Plan = moving v client number opened touched move name goal in
    let slots = slots_named v is all in
    elim move.is_same as (λ b. move.is_same ≡ b → AreNamed (edited v (if b then standing v client number Done else if_room v client number ready).edit)) [
      | true ↦ λ same. alone_named v _ all
      | false ↦ λ differ. room_named v client number ready all (names_kept v ready.edit is slots (moving_keeps v client number opened touched move name goal slots (there move refl differ)))
    ] refl

rename_named : (v : Volume) (client : ClientId) (number : ℕ) (opened : List Ino) (touched : List Touch) (path goal : List (List ℕ)) → IsVolume v → AreNamed v
    → AreNamed (edited v (moving_by v client number opened touched (if_there v (move_of (shown v) path goal)) (last_of path) (last_of goal)).edit)
rename_named v client number opened touched path goal is all =
    moved_named v client number opened touched (if_there v (move_of (shown v) path goal)) (last_of path) (last_of goal) is all
    (λ move e differ. renames v path goal move is differ (moves_by (shown v) path goal move (is_there v (move_of (shown v) path goal) move e).is))

-- ---- every call

pub plan_named : (v : Volume) (client : ClientId) (number : ℕ) (call : Call) (opened : List Ino) → IsVolume v → AreNamed v → AreNamed (edited v (plan v client number call opened).edit)
plan_named v client number (Create path) opened is all = make_named v client number (new_place (shown v) path) (last_of path) File is all tt
plan_named v client number (Mkdir path) opened is all = make_named v client number (new_place (shown v) path) (last_of path) Dir is all tt
plan_named v client number (Unlink path) opened is all =
    removed_named v client number opened (touches (shown v) (Unlink path)) (parent_of (shown v) path) (file_named (shown v) path) (last_of path) is all (λ place ino up found. file_at v path place ino is up found)
plan_named v client number (Rmdir path) opened is all =
    removed_named v client number opened (touches (shown v) (Rmdir path)) (parent_of (shown v) path) (removable (shown v) path) (last_of path) is all (λ place ino up found. directory_at v path place ino is up found)
plan_named v client number (Rename path goal) opened is all = rename_named v client number opened (touches (shown v) (Rename path goal)) path goal is all
plan_named v client number (Open path mode) opened is all = alone_named v _ all
plan_named v client number (Close fd) opened is all = alone_named v _ all
plan_named v client number (Read fd offset len) opened is all = alone_named v _ all
plan_named v client number (Write fd offset bytes) opened is all = alone_named v _ all
plan_named v client number (Truncate fd size) opened is all = alone_named v _ all
plan_named v client number (Stat path) opened is all = alone_named v _ all
plan_named v client number (Readdir path) opened is all = alone_named v _ all
plan_named v client number (Fsync fd) opened is all = alone_named v _ all

-- ---- a flush and a reaping

-- an inode keeps its kind and its name when it is flushed
pub flush_named : (v : Volume) (client : ClientId) (flush : Flush) → IsVolume v → AreNamed v → AreNamed (edited v (flush_of v client flush))
flush_named v client flush is all =
    names_kept v (flush_of v client flush) is (slots_named v is all) (record {
      comes = tt;
      stays = λ k p x s seen. seen_then v (flush_of v client flush) x.ino.0 (λ same. subst (λ (n : ℕ). IsSeen (inode_at v.inodes n)) (sym same) seen) seen;
    })

orphan_unseen : (k : Kind) (named : Bool) → k ≡ File → named ≡ false → is_some (shown_as k named []) ≡ true → ⊥
orphan_unseen Free named kind nameless seen = absurd (cc)
orphan_unseen File true kind nameless seen = absurd (cc)
orphan_unseen File false kind nameless seen = absurd (cc)
orphan_unseen Dir named kind nameless seen = absurd (cc)

-- no name stands for an orphan
pub reap_named : (v : Volume) (ino : Ino) → IsVolume v → AreNamed v → (inode_at v.inodes ino.0).kind ≡ File → (inode_at v.inodes ino.0).named ≡ false → AreNamed (edited v (reap_of ino))
reap_named v ino is all kind nameless =
    names_kept v (reap_of ino) is (slots_named v is all) (record {
      comes = tt;
      stays = λ k p x s seen. seen_then v (reap_of ino) x.ino.0
          (λ same. absurd (orphan_unseen (inode_at v.inodes ino.0).kind (inode_at v.inodes ino.0).named kind nameless (subst (λ (n : ℕ). IsSeen (inode_at v.inodes n)) (sym same) seen))) seen;
    })
