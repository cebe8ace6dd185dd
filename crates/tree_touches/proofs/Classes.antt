-- A class that shows an inode is touched wherever the inode is.
use Rattle.std.proofs.Common.{◌≡◌, ◌≢◌, ◌==◌, ◌⊎◌, inl, inr, arith, ℕ, zero, suc, true, false, List, [], ◌∷◌, ◌++◌, Option, Some, None, Result, Ok, Err, All, refl, sym, subst, if◌then◌else◌}
use Rattle.cal_base.specs.declared.directory_entry.EntryKind.TheVariants.{File as IsFile, Directory as IsDirectory}
use Rattle.cal_base.specs.declared.identity.ClientId.{ClientId}
use Rattle.cal_base.specs.declared.identity.Ino.{Ino}
use Rattle.tree_law.specs.Change.{is_change}
use Rattle.tree_law.specs.PartOf.{kind_of}
use Rattle.tree_law.specs.Needs.{Touch, touched_names, touched_file, touched_unlink, touched_rmdir, touched_target, touched_places, touched_rename}
use Rattle.tree_law.specs.Tree.{Tree, node_at}
use Rattle.tree_law.specs.Resolve.{new_place, room_for, judged, as_empty_directory, file_named, removable, parent_of, last_of, prefix_of, resolved}
use Rattle.tree_law.specs.Rename.{is_directory, move_of}
use Rattle.tree_law.specs.Legal.{IsLegal, IsNext, IsNewInode, after, tree_of}
use Rattle.tree_law.specs.declared.call.Call.{Call}
use Rattle.tree_law.specs.declared.call.Call.TheVariants.{Create, Mkdir, Unlink, Rmdir, Rename, Open, Close, Read, Write, Truncate, Stat, Readdir, Fsync}
use Rattle.tree_law.specs.declared.entry.Entry.{Entry}
use Rattle.tree_law.specs.declared.entry.Entry.TheVariants.{Call as Called}
use Rattle.tree_law.specs.declared.node.Node.{Node}
use Rattle.tree_law.specs.declared.node.Node.TheVariants.{Directory, Regular}
use Rattle.tree_law.specs.declared.rename.Move.{Move}
use Rattle.tree_law.specs.declared.reply.Reply.{Reply}
use Rattle.tree_law.specs.declared.reply.Why.{Why}
use Rattle.tree_facts.proofs.Entries.{is_directory_by}
use Rattle.tree_facts.proofs.Paths.{judged_file, judged_directory, judged_empty}
use Rattle.tree_facts.proofs.Moves.{moves_by}
use Rattle.tree_facts.proofs.Writers.{new_free}
use Rattle.tree_touches.specs.Touching.{IsUntouched, ShowsNode, IsClassUntouched}
use Rattle.tree_touches.proofs.Changes.{Misses, found_place}
use Rattle.tree_touches.proofs.Named.{numbered}
use Rattle.tree_touches.proofs.Untouched.{untouched_stays}

abbrev Spares : List Touch → Ino → ℕ → Type 0
Spares touched ino class = All (λ touch. touch ≢ (ino, class)) touched

none_missed : (k : ℕ) → Misses [] k
none_missed k i d below = absurd (omega (arith, below))

one_missed : (touch : Touch) (touched : List Touch) (k : ℕ) → touch.0.0 ≢ k → Misses touched k → Misses (touch ∷ touched) k
one_missed touch touched k apart misses zero d below = apart
one_missed touch touched k apart misses (suc i) d below = misses i d (omega (arith, below))

head_spared : (touch : Touch) (touched : List Touch) (ino : Ino) (class : ℕ) → Spares (touch ∷ touched) ino class → touch ≢ (ino, class)
head_spared touch touched ino class spares = spares 0 touch (omega arith)

rest_spared : (touch : Touch) (touched : List Touch) (ino : Ino) (class : ℕ) → Spares (touch ∷ touched) ino class → Spares touched ino class
rest_spared touch touched ino class spares i d below = spares (suc i) d (omega (arith, below))

shows_names : (node : Option Node) (class : ℕ) → is_directory node ≡ true → ShowsNode node class → class ≡ 1
shows_names (Some (Directory names)) class is shows = shows
shows_names (Some (Regular file)) class is shows = absurd (cc)
shows_names None class is shows = absurd (cc)

shows_file : (node : Option Node) (class : ℕ) → is_directory node ≡ false → ShowsNode node class → (class ≡ 2) ⊎ (class ≡ 3)
shows_file (Some (Directory names)) class is shows = absurd (cc)
shows_file (Some (Regular file)) class is shows = shows
shows_file None class is shows = absurd shows

abbrev touch_of : Ino → ℕ → Touch
touch_of ino class = (ino, class)

same_touch : (at ino : Ino) (c class : ℕ) → at.0 ≡ ino.0 → class ≡ c → touch_of at c ≡ touch_of ino class
same_touch at ino c class same is = λ i. (record { 0 = same i }, sym is i)

-- a directory whose Names are touched, and a file whose Data and Attr are
directory_apart : (tree : Tree) (at ino : Ino) (class : ℕ) → is_directory (node_at tree at) ≡ true → ShowsNode (node_at tree ino) class → touch_of at 1 ≢ touch_of ino class → at.0 ≢ ino.0
directory_apart tree at ino class is shows spared same =
    spared (same_touch at ino 1 class same (shows_names (node_at tree ino) class (subst (λ (n : ℕ). is_directory (node_at tree (numbered n)) ≡ true) same is) shows))

file_apart : (tree : Tree) (at ino : Ino) (class : ℕ) → is_directory (node_at tree at) ≡ false → ShowsNode (node_at tree ino) class → touch_of at 2 ≢ touch_of ino class → touch_of at 3 ≢ touch_of ino class → at.0 ≢ ino.0
file_apart tree at ino class is shows two three same =
    elim (shows_file (node_at tree ino) class (subst (λ (n : ℕ). is_directory (node_at tree (numbered n)) ≡ false) same is) shows) [
      | inl bytes ↦ two (same_touch at ino 2 class same bytes)
      | inr size ↦ three (same_touch at ino 3 class same size)
    ]

is_kind_directory : (node : Option Node) → kind_of node ≡ Some IsDirectory → is_directory node ≡ true
is_kind_directory (Some (Directory names)) is = refl
is_kind_directory (Some (Regular file)) is = absurd (cc)
is_kind_directory None is = absurd (cc)

is_kind_file : (node : Option Node) → kind_of node ≡ Some IsFile → is_directory node ≡ false
is_kind_file (Some (Directory names)) is = absurd (cc)
is_kind_file (Some (Regular file)) is = refl
is_kind_file None is = refl

-- the Names of a directory, before others that are missed
names_missed : (tree : Tree) (at ino : Ino) (class : ℕ) (rest : List Touch) → is_directory (node_at tree at) ≡ true → ShowsNode (node_at tree ino) class → (Spares rest ino class → Misses rest ino.0) → Spares ((at, 1) ∷ rest) ino class → Misses ((at, 1) ∷ rest) ino.0
names_missed tree at ino class rest is shows more spares =
    one_missed (at, 1) rest ino.0 (directory_apart tree at ino class is shows (head_spared (at, 1) rest ino class spares)) (more (rest_spared (at, 1) rest ino class spares))

file_missed : (tree : Tree) (at ino : Ino) (class : ℕ) → is_directory (node_at tree at) ≡ false → ShowsNode (node_at tree ino) class → Spares (touched_file at) ino class → Misses (touched_file at) ino.0
file_missed tree at ino class is shows spares =
    let apart : at.0 ≢ ino.0 = file_apart tree at ino class is shows (head_spared (at, 2) ((at, 3) ∷ []) ino class spares) (head_spared (at, 3) [] ino class (rest_spared (at, 2) ((at, 3) ∷ []) ino class spares)) in
    one_missed (at, 2) ((at, 3) ∷ []) ino.0 apart (one_missed (at, 3) [] ino.0 apart (none_missed ino.0))

parent_missed : (tree : Tree) (place : Result Ino Why) (ino : Ino) (class : ℕ) (rest : List Touch) → ((at : Ino) → place ≡ Ok at → is_directory (node_at tree at) ≡ true) → ShowsNode (node_at tree ino) class
    → (Spares rest ino class → Misses rest ino.0) → Spares (touched_names place ++ rest) ino class → Misses (touched_names place ++ rest) ino.0
parent_missed tree (Ok at) ino class rest is shows more spares = names_missed tree at ino class rest (is at refl) shows more spares
parent_missed tree (Err why) ino class rest is shows more spares = more spares

parent_directory : (tree : Tree) (path : List (List ℕ)) (at : Ino) → parent_of tree path ≡ Ok at → is_directory (node_at tree at) ≡ true
parent_directory tree path at is = is_kind_directory (node_at tree at) (judged_directory tree (resolved tree (prefix_of path)) at is).1

room_directory : (node : Option Node) (name : List ℕ) (at place : Ino) → room_for name node at ≡ Ok place → is_directory node ≡ true
room_directory (Some (Directory names)) name at place is = refl
room_directory (Some (Regular file)) name at place is = absurd (cc)
room_directory None name at place is = absurd (cc)

judged_room : (tree : Tree) (name : List ℕ) (found : Result Ino Why) (place : Ino) → judged (room_for name) tree found ≡ Ok place → is_directory (node_at tree place) ≡ true
judged_room tree name (Ok at) place is =
    subst (λ (i : Ino). is_directory (node_at tree i) ≡ true) (found_place (node_at tree at) name at place is) (room_directory (node_at tree at) name at place is)
judged_room tree name (Err why) place is = absurd (cc)

new_directory : (tree : Tree) (path : List (List ℕ)) (place : Ino) → new_place tree path ≡ Ok place → is_directory (node_at tree place) ≡ true
new_directory tree [] place is = absurd (cc)
new_directory tree (name ∷ names) place is = judged_room tree (last_of (name ∷ names)) (resolved tree (prefix_of (name ∷ names))) place is

empty_directory : (node : Option Node) (at ino : Ino) → as_empty_directory node at ≡ Ok ino → is_directory node ≡ true
empty_directory (Some (Directory names)) at ino is = refl
empty_directory (Some (Regular file)) at ino is = absurd (cc)
empty_directory None at ino is = absurd (cc)

judged_removable : (tree : Tree) (found : Result Ino Why) (ino : Ino) → judged as_empty_directory tree found ≡ Ok ino → is_directory (node_at tree ino) ≡ true
judged_removable tree (Ok at) ino is =
    let same : Ok at ≡ Ok ino = judged_empty tree (Ok at) ino is in
    subst (λ (i : Ino). is_directory (node_at tree i) ≡ true) (let equal : at ≡ ino = cc in equal) (empty_directory (node_at tree at) at ino is)
judged_removable tree (Err why) ino is = absurd (cc)

removable_is : (tree : Tree) (path : List (List ℕ)) (ino : Ino) → removable tree path ≡ Ok ino → is_directory (node_at tree ino) ≡ true
removable_is tree [] ino is = absurd (cc)
removable_is tree (name ∷ names) ino is = judged_removable tree (resolved tree (name ∷ names)) ino is

made_missed : (tree : Tree) (path : List (List ℕ)) (found : Result Ino Why) (ino : Ino) (class : ℕ) → new_place tree path ≡ found → ShowsNode (node_at tree ino) class → Spares (touched_names found) ino class → Misses (touched_names found) ino.0
made_missed tree path (Ok at) ino class is shows spares = names_missed tree at ino class [] (new_directory tree path at is) shows (λ none. none_missed ino.0) spares
made_missed tree path (Err why) ino class is shows spares = none_missed ino.0

unlink_missed : (tree : Tree) (path : List (List ℕ)) (found : Result Ino Why) (ino : Ino) (class : ℕ) → file_named tree path ≡ found → ShowsNode (node_at tree ino) class → Spares (touched_unlink found (parent_of tree path)) ino class → Misses (touched_unlink found (parent_of tree path)) ino.0
unlink_missed tree path (Ok at) ino class is shows spares =
    parent_missed tree (parent_of tree path) ino class (touched_file at) (parent_directory tree path) shows (file_missed tree at ino class (is_kind_file (node_at tree at) (judged_file tree (resolved tree path) at is).1) shows) spares
unlink_missed tree path (Err why) ino class is shows spares = none_missed ino.0

rmdir_missed : (tree : Tree) (path : List (List ℕ)) (found : Result Ino Why) (ino : Ino) (class : ℕ) → removable tree path ≡ found → ShowsNode (node_at tree ino) class → Spares (touched_rmdir found (parent_of tree path)) ino class → Misses (touched_rmdir found (parent_of tree path)) ino.0
rmdir_missed tree path (Ok at) ino class is shows spares =
    parent_missed tree (parent_of tree path) ino class ((at, 1) ∷ []) (parent_directory tree path) shows (names_missed tree at ino class [] (removable_is tree path at is) shows (λ none. none_missed ino.0)) spares
rmdir_missed tree path (Err why) ino class is shows spares = none_missed ino.0

target_missed : (tree : Tree) (replaced : Option Ino) (ino : Ino) (class : ℕ) → ShowsNode (node_at tree ino) class → Spares (touched_target tree replaced) ino class → Misses (touched_target tree replaced) ino.0
target_missed tree None ino class shows spares = none_missed ino.0
target_missed tree (Some at) ino class shows spares =
    elim (is_directory (node_at tree at)) as (λ b. is_directory (node_at tree at) ≡ b → Spares (if b then (at, 1) ∷ [] else touched_file at) ino class → Misses (if b then (at, 1) ∷ [] else touched_file at) ino.0) [
      | true ↦ λ e spares. names_missed tree at ino class [] e shows (λ none. none_missed ino.0) spares
      | false ↦ λ e spares. file_missed tree at ino class e shows spares
    ] refl spares

places_missed : (tree : Tree) (from to ino : Ino) (class : ℕ) (rest : List Touch) → is_directory (node_at tree from) ≡ true → is_directory (node_at tree to) ≡ true → ShowsNode (node_at tree ino) class
    → (Spares rest ino class → Misses rest ino.0) → Spares (touched_places from to ++ rest) ino class → Misses (touched_places from to ++ rest) ino.0
places_missed tree from to ino class rest source goal shows more spares =
    elim (from.0 == to.0) as (λ b. Spares ((if b then (from, 1) ∷ [] else (from, 1) ∷ (to, 1) ∷ []) ++ rest) ino class → Misses ((if b then (from, 1) ∷ [] else (from, 1) ∷ (to, 1) ∷ []) ++ rest) ino.0) [
      | true ↦ λ spares. names_missed tree from ino class rest source shows more spares
      | false ↦ λ spares. names_missed tree from ino class ((to, 1) ∷ rest) source shows (names_missed tree to ino class rest goal shows more) spares
    ] spares

rename_missed : (tree : Tree) (path goal : List (List ℕ)) (found : Result Move Why) (ino : Ino) (class : ℕ) → move_of tree path goal ≡ found → ShowsNode (node_at tree ino) class → Spares (touched_rename tree found) ino class → Misses (touched_rename tree found) ino.0
rename_missed tree path goal (Ok move) ino class is shows spares =
    let m = moves_by tree path goal move is in
    let all : List Touch = touched_places move.from move.to ++ touched_target tree move.replaced in
    elim move.is_same as (λ b. Spares (if b then [] else all) ino class → Misses (if b then [] else all) ino.0) [
      | true ↦ λ spares. none_missed ino.0
      | false ↦ λ spares. places_missed tree move.from move.to ino class (touched_target tree move.replaced)
          (is_kind_directory (node_at tree move.from) (is_directory_by (node_at tree move.from) (last_of path) move.ino m.named)) (is_kind_directory (node_at tree move.to) m.directory) shows (target_missed tree move.replaced ino class shows) spares
    ] spares
rename_missed tree path goal (Err why) ino class is shows spares = none_missed ino.0

missed : (tree : Tree) (call : Call) (ino : Ino) (class : ℕ) → ShowsNode (node_at tree ino) class → IsClassUntouched tree call ino class → IsUntouched tree call ino
missed tree (Create path) ino class shows spares = made_missed tree path (new_place tree path) ino class refl shows spares
missed tree (Mkdir path) ino class shows spares = made_missed tree path (new_place tree path) ino class refl shows spares
missed tree (Unlink path) ino class shows spares = unlink_missed tree path (file_named tree path) ino class refl shows spares
missed tree (Rmdir path) ino class shows spares = rmdir_missed tree path (removable tree path) ino class refl shows spares
missed tree (Rename path goal) ino class shows spares = rename_missed tree path goal (move_of tree path goal) ino class refl shows spares
missed tree (Open path mode) ino class shows spares = none_missed ino.0
missed tree (Close fd) ino class shows spares = none_missed ino.0
missed tree (Read fd offset len) ino class shows spares = none_missed ino.0
missed tree (Write fd offset bytes) ino class shows spares = none_missed ino.0
missed tree (Truncate fd size) ino class shows spares = none_missed ino.0
missed tree (Stat path) ino class shows spares = none_missed ino.0
missed tree (Readdir path) ino class shows spares = none_missed ino.0
missed tree (Fsync fd) ino class shows spares = none_missed ino.0

-- what stands somewhere isn't what a call makes
not_shown : (node : Option Node) (class : ℕ) → node ≡ None → ShowsNode node class → ⊥
not_shown (Some (Directory names)) class none shows = absurd (cc)
not_shown (Some (Regular file)) class none shows = absurd (cc)
not_shown None class none shows = shows

pub class_stays : (history : List Entry) (client : ClientId) (number : ℕ) (call : Call) (reply : Reply) (new : Option Ino) (ino : Ino) (class : ℕ)
    → IsLegal history → IsNext (tree_of history) (Called client number call reply new) → is_change call ≡ true → ShowsNode (node_at (tree_of history) ino) class → IsClassUntouched (tree_of history) call ino class
    → node_at (after (tree_of history) (Called client number call reply new)) ino ≡ node_at (tree_of history) ino
class_stays history client number call reply new ino class legal next change shows spares =
    untouched_stays history client number call reply new ino legal next change (missed (tree_of history) call ino class shows spares)
    (λ made. not_shown (node_at (tree_of history) ino) class (new_free (tree_of history) call reply ino (subst (λ (n : Option Ino). IsNewInode (tree_of history) call reply n) made next.new_inode)) shows)
