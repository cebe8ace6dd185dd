-- The edit of `rename` keeps a volume within its grammar.
use Rattle.std.proofs.Common.{◌≡◌, ◌≢◌, ◌==◌, ◌<◌, ◌&&◌, ◌∷◌, [], ℕ, Bool, true, false, not, nat_eq, nat_le, List, Option, Some, None, Result, Ok, Err, is_some, ok_or, refl, sym, ap, ◌∙◌, subst, arith, if◌then◌else◌}
use Rattle.cal_base.specs.Limits as limits
use Rattle.std.proofs.lemmas.Bool.Decides.{nat_tests}
use Rattle.std.specs.Cmp.Lexicographic.{pointwise}
use Rattle.std.specs.FinMap as map
use Rattle.cal_base.specs.declared.identity.Ino.{Ino}
use Rattle.directory.specs.Directory.{IsAbsent, entry_count}
use Rattle.inode.specs.declared.inode.Kind.{Kind}
use Rattle.inode.specs.declared.inode.Kind.TheVariants.{Free, File, Dir}
use Rattle.tree_facts.proofs.Paths.{judged_directory, last_looked}
use Rattle.tree_law.specs.Rename.{is_at_or_below, is_directory, is_full_directory, landing, move_of, moving_to, replacing}
use Rattle.tree_law.specs.Resolve.{last_of, looked_up, parent_of, prefix_of, resolved}
use Rattle.tree_law.specs.Tree.{node_at}
use Rattle.tree_law.specs.declared.node.Node.{Node}
use Rattle.tree_law.specs.declared.node.Node.TheVariants.{Directory, Regular}
use Rattle.tree_law.specs.declared.rename.Move.{Move}
use Rattle.tree_law.specs.declared.reply.Why.{Why}
use Rattle.tree_law.specs.declared.reply.Why.TheVariants.{NoEnt, NotEmpty, Inval, DirFull}
use Rattle.volume.specs.Volume.{Slots, Volume, slots_of}
use Rattle.volume_edit.specs.Edit.{IsVolume, inode_at}
use Rattle.volume_plan.specs.Shown.{names_of, shown, shown_as}
use Rattle.volume_plan.proofs.NamesOf.{got_absent, names_of-len}
use Rattle.volume_plan.proofs.RemovalEdits.{NamedIn, directory_kind, named_in, no_name}
use Rattle.volume_plan.proofs.Rooms.{IsListed, listed}
use Rattle.volume_plan.proofs.ShownNodes.{shown_at}

-- what a move replaces is neither of the two directories; where it replaces nothing there is room
pub record IsFreeGoal (v : Volume) (move : Move) (goal : List ℕ) : Type 0 where
  pub absent : IsAbsent (slots_of v move.to.0) goal
  pub few : move.from.0 ≢ move.to.0 → entry_count (slots_of v move.to.0) < limits.directory_entries

pub record IsGoal (v : Volume) (move : Move) (goal : List ℕ) (target : Ino) : Type 0 where
  pub named : NamedIn v move.to goal target
  pub from : target.0 ≢ move.from.0
  pub to : target.0 ≢ move.to.0

abbrev pub Lands : Volume → Move → List ℕ → Option Ino → Type 0
Lands v move goal None = IsFreeGoal v move goal
Lands v move goal (Some target) = IsGoal v move goal target

pub record Moves (v : Volume) (move : Move) (name goal : List ℕ) : Type 0 where
  pub source : NamedIn v move.from name move.ino
  pub to : IsListed v move.to.0
  pub lands : Lands v move goal move.replaced

-- a name stands for something, and does so in place of a file or of an empty directory
record Replaced (k : Kind) (slots : Slots) (made move : Move) : Type 0 where
  same : made ≡ move
  empty : k ≡ Dir → map.len (names_of slots) ≡ 0

replaced : (a : Kind) (m : Bool) (s : Slots) (k : Kind) (n : Bool) (t : Slots) (made move : Move) → is_some (shown_as a m s) ≡ true → replacing (shown_as a m s) (shown_as k n t) made ≡ Ok move → Replaced k t made move
replaced Free m s k n t made move some e = absurd (cc)
replaced File false s k n t made move some e = absurd (cc)
replaced File true s Free n t made move some e = record { same = (let same : made ≡ move = cc in same); empty = λ d. absurd (cc) }
replaced File true s File true t made move some e = record { same = (let same : made ≡ move = cc in same); empty = λ d. absurd (cc) }
replaced File true s File false t made move some e = record { same = (let same : made ≡ move = cc in same); empty = λ d. absurd (cc) }
replaced File true s Dir n t made move some e = absurd (cc)
replaced Dir m s Free n t made move some e = record { same = (let same : made ≡ move = cc in same); empty = λ d. absurd (cc) }
replaced Dir m s File true t made move some e = absurd (cc)
replaced Dir m s File false t made move some e = record { same = (let same : made ≡ move = cc in same); empty = λ d. absurd (cc) }
replaced Dir m s Dir n t made move some e =
    elim (map.len (names_of t) == 0) as (λ b. (map.len (names_of t) == 0) ≡ b → (if b then Ok made else Err NotEmpty) ≡ Ok move → Replaced Dir t made move) [
      | true ↦ λ is r. record { same = (let same : made ≡ move = cc in same); empty = λ d. grind (arith, nat_tests) }
      | false ↦ λ is r. absurd (cc)
    ] refl e

-- an empty directory, or no directory, isn't one that names something
apart_of : (v : Volume) (target place : Ino) (name : List ℕ) (ino : Ino) → ((inode_at v.inodes target.0).kind ≡ Dir → map.len (names_of (slots_of v target.0)) ≡ 0) → NamedIn v place name ino → target.0 ≢ place.0
apart_of v target place name ino empty n same =
    let kind : (inode_at v.inodes target.0).kind ≡ Dir = ap (λ (k : ℕ). (inode_at v.inodes k).kind) same ∙ n.listed.kind in
    let here : map.len (names_of (slots_of v place.0)) ≡ 0 = subst (λ (k : ℕ). map.len (names_of (slots_of v k)) ≡ 0) same (empty kind) in
    no_name (slots_of v place.0) name ino here n.got

abbrev moved_to : Ino → Ino → Ino → Option Ino → Move
moved_to from to ino target = record { from = from; to = to; ino = ino; replaced = target; is_same = false }

on_target : (v : Volume) (from to ino target : Ino) (name goal : List ℕ) (move : Move) → IsVolume v → NamedIn v from name ino → IsListed v to.0 → NamedIn v to goal target → is_some (node_at (shown v) ino) ≡ true
    → replacing (node_at (shown v) ino) (node_at (shown v) target) (moved_to from to ino (Some target)) ≡ Ok move → Moves v move name goal
on_target v from to ino target name goal move is source listed there some e =
    let shown_ino = shown_at v ino.0 is in
    let shown_target = shown_at v target.0 is in
    let r = replaced (inode_at v.inodes ino.0).kind (inode_at v.inodes ino.0).named (slots_of v ino.0) (inode_at v.inodes target.0).kind (inode_at v.inodes target.0).named (slots_of v target.0) (moved_to from to ino (Some target)) move
    (subst (λ (n : Option Node). is_some n ≡ true) shown_ino some)
    (subst (λ (n : Option Node). replacing (shown_as (inode_at v.inodes ino.0).kind (inode_at v.inodes ino.0).named (slots_of v ino.0)) n (moved_to from to ino (Some target)) ≡ Ok move) shown_target
    (subst (λ (n : Option Node). replacing n (node_at (shown v) target) (moved_to from to ino (Some target)) ≡ Ok move) shown_ino e)) in
    subst (λ (m : Move). Moves v m name goal) r.same (record {
      source = source;
      to = listed;
      lands = record { named = there; from = apart_of v target from name ino r.empty source; to = apart_of v target to goal target r.empty there };
    })

-- no name is there, and an entry more may come
none_there : (o : Option Ino) (why : Why) → ok_or o NoEnt ≡ Err why → o ≡ None
none_there (Some ino) why e = absurd (cc)
none_there None why e = refl

nothing_there : (k : Kind) (named : Bool) (slots : Slots) (name : List ℕ) (why : Why) → k ≡ Dir → looked_up (shown_as k named slots) name ≡ Err why → map.get (names_of slots) name ≡ None
nothing_there Free named slots name why kind e = absurd (cc)
nothing_there File named slots name why kind e = absurd (cc)
nothing_there Dir named slots name why kind e = none_there (map.get (names_of slots) name) why e

not_full : (k : Kind) (named : Bool) (slots : Slots) → k ≡ Dir → is_full_directory (shown_as k named slots) ≡ false → nat_le 1024 (map.len (names_of slots)) ≡ false
not_full Free named slots kind e = absurd (cc)
not_full File named slots kind e = absurd (cc)
not_full Dir named slots kind e = e

record Added (apart full : Bool) (made move : Move) : Type 0 where
  same : made ≡ move
  room : apart ≡ true → full ≡ false

added : (apart full : Bool) (made move : Move) → (if apart && full then Err DirFull else Ok made) ≡ Ok move → Added apart full made move
added true true made move e = absurd (cc)
added true false made move e = record { same = (let same : made ≡ move = cc in same); room = λ a. refl }
added false full made move e = record { same = (let same : made ≡ move = cc in same); room = λ a. absurd (cc) }

on_nothing : (v : Volume) (from to ino : Ino) (name goal : List ℕ) (why : Why) (move : Move) → IsVolume v → NamedIn v from name ino → IsListed v to.0 → looked_up (node_at (shown v) to) goal ≡ Err why
    → (if not (from.0 == to.0) && is_full_directory (node_at (shown v) to) then Err DirFull else Ok (moved_to from to ino None)) ≡ Ok move → Moves v move name goal
on_nothing v from to ino name goal why move is source l none e =
    let at = shown_at v to.0 is in
    let a = added (not (from.0 == to.0)) (is_full_directory (node_at (shown v) to)) (moved_to from to ino None) move e in
    let d = l.sized.directory.distinct in
    let len = names_of-len (slots_of v to.0) d in
    let got = nothing_there (inode_at v.inodes to.0).kind (inode_at v.inodes to.0).named (slots_of v to.0) goal why l.kind (subst (λ (n : Option Node). looked_up n goal ≡ Err why) at none) in
    subst (λ (m : Move). Moves v m name goal) a.same (record {
      source = source;
      to = l;
      lands = record {
        absent = got_absent (slots_of v to.0) goal d got;
        few = λ apart. (
            let differ : not (from.0 == to.0) ≡ true = grind (arith, nat_tests) in
            let room = not_full (inode_at v.inodes to.0).kind (inode_at v.inodes to.0).named (slots_of v to.0) l.kind (subst (λ (n : Option Node). is_full_directory n ≡ false) at (a.room differ)) in
            grind (arith, nat_tests));
      };
    })

landed : (v : Volume) (from to ino : Ino) (name goal : List ℕ) (r : Result Ino Why) (move : Move) → IsVolume v → NamedIn v from name ino → IsListed v to.0 → is_some (node_at (shown v) ino) ≡ true → looked_up (node_at (shown v) to) goal ≡ r
    → landing (shown v) from to ino r ≡ Ok move → Moves v move name goal
landed v from to ino name goal (Ok target) move is source l some found e = on_target v from to ino target name goal move is source l (named_in v to goal target is found) some e
landed v from to ino name goal (Err why) move is source l some found e = on_nothing v from to ino name goal why move is source l found e

abbrev allowed : Move → Result Move Why
allowed move = Ok move

same_made : (made move : Move) → allowed made ≡ allowed move → made ≡ move
same_made made move e = cc

made_of : (b : Bool) (why : Why) (made move : Move) → (if b then Err why else Ok made) ≡ Ok move → made ≡ move
made_of true why made move e = absurd (cc)
made_of false why made move e = same_made made move e

made_if : (b : Bool) (why : Why) (made move : Move) → (if b then Ok made else Err why) ≡ Ok move → made ≡ move
made_if true why made move e = same_made made move e
made_if false why made move e = absurd (cc)

replacing_same : (node target : Option Node) (made move : Move) → replacing node target made ≡ Ok move → made ≡ move
replacing_same (Some (Directory names)) (Some (Directory others)) made move e = made_if (map.len others == 0) NotEmpty made move e
replacing_same (Some (Directory names)) (Some (Regular file)) made move e = absurd (cc)
replacing_same (Some (Directory names)) None made move e = same_made made move e
replacing_same (Some (Regular file)) (Some (Directory others)) made move e = absurd (cc)
replacing_same (Some (Regular file)) (Some (Regular other)) made move e = same_made made move e
replacing_same (Some (Regular file)) None made move e = same_made made move e
replacing_same None target made move e = same_made made move e

landing_ino : (v : Volume) (from to ino : Ino) (r : Result Ino Why) (move : Move) → landing (shown v) from to ino r ≡ Ok move → ino ≡ move.ino
landing_ino v from to ino (Ok target) move e = ap (λ (m : Move). m.ino) (replacing_same (node_at (shown v) ino) (node_at (shown v) target) (moved_to from to ino (Some target)) move e)
landing_ino v from to ino (Err why) move e = ap (λ (m : Move). m.ino) (made_of (not (from.0 == to.0) && is_full_directory (node_at (shown v) to)) DirFull (moved_to from to ino None) move e)

-- a move that isn't of an entry to itself lands
record Lands_by (v : Volume) (from to ino : Ino) (goal : List ℕ) (move : Move) : Type 0 where
  lands : landing (shown v) from to ino (looked_up (node_at (shown v) to) goal) ≡ Ok move

moving_lands : (same below : Bool) (v : Volume) (from to ino : Ino) (goal : List ℕ) (move : Move) → move.is_same ≡ false
    → (if same then Ok (record { from = from; to = to; ino = ino; replaced = None; is_same = true }) else (if below then Err Inval else landing (shown v) from to ino (looked_up (node_at (shown v) to) goal))) ≡ Ok move
    → Lands_by v from to ino goal move
moving_lands true below v from to ino goal move other e =
    let same : true ≡ move.is_same = ap (λ (m : Move). m.is_same) (same_made (record { from = from; to = to; ino = ino; replaced = None; is_same = true }) move e) in
    absurd (cc)
moving_lands false true v from to ino goal move other e = absurd (cc)
moving_lands false false v from to ino goal move other e = record { lands = e }

moves_by : (v : Volume) (name other : List ℕ) (names others : List (List ℕ)) (at up over : Result Ino Why) (move : Move) → IsVolume v → resolved (shown v) (name ∷ names) ≡ at → parent_of (shown v) (name ∷ names) ≡ up → parent_of (shown v) (other ∷ others) ≡ over
    → move.is_same ≡ false → is_some (node_at (shown v) move.ino) ≡ true → moving_to (shown v) (name ∷ names) (other ∷ others) at up over ≡ Ok move → Moves v move (last_of (name ∷ names)) (last_of (other ∷ others))
moves_by v name other names others (Ok ino) (Ok from) (Ok to) move is found up over differ some e =
    let l = moving_lands ((from.0 == to.0) && pointwise nat_eq (last_of (name ∷ names)) (last_of (other ∷ others))) (is_directory (node_at (shown v) ino) && is_at_or_below (prefix_of (other ∷ others)) (name ∷ names)) v from to ino (last_of (other ∷ others)) move differ e in
    let same = landing_ino v from to ino (looked_up (node_at (shown v) to) (last_of (other ∷ others))) move l.lands in
    let d = judged_directory (shown v) (resolved (shown v) (prefix_of (name ∷ names))) from up in
    let t = judged_directory (shown v) (resolved (shown v) (prefix_of (other ∷ others))) to over in
    landed v from to ino (last_of (name ∷ names)) (last_of (other ∷ others)) (looked_up (node_at (shown v) to) (last_of (other ∷ others))) move is
    (named_in v from (last_of (name ∷ names)) ino is (last_looked (shown v) name names from ino d.0 found))
    (listed v to.0 is (directory_kind v to is t.1))
    (subst (λ (i : Ino). is_some (node_at (shown v) i) ≡ true) (sym same) some) refl l.lands
moves_by v name other names others (Ok ino) (Ok from) (Err why) move is found up over differ some e = absurd (cc)
moves_by v name other names others (Ok ino) (Err why) over' move is found up over differ some e = absurd (cc)
moves_by v name other names others (Err why) up' over' move is found up over differ some e = absurd (cc)

-- what a move that the tree of a volume allows moves
pub moves : (v : Volume) (path goal : List (List ℕ)) (move : Move) → IsVolume v → move_of (shown v) path goal ≡ Ok move → move.is_same ≡ false → is_some (node_at (shown v) move.ino) ≡ true → Moves v move (last_of path) (last_of goal)
moves v [] goal move is e differ some = absurd (cc)
moves v (name ∷ names) [] move is e differ some = absurd (cc)
moves v (name ∷ names) (other ∷ others) move is e differ some =
    moves_by v name other names others (resolved (shown v) (name ∷ names)) (parent_of (shown v) (name ∷ names)) (parent_of (shown v) (other ∷ others)) move is refl refl refl differ some e
