-- A change is refused as a change may be.
use Rattle.std.proofs.Common.{◌==◌, ◌&&◌, ℕ, Bool, true, false, not, nat_eq, nat_le, List, [], ◌∷◌, Option, Some, None, Result, Ok, Err, ok_or, is_some, if◌then◌else◌}
use Rattle.std.specs.Cmp.Lexicographic.{pointwise}
use Rattle.std.specs.FinMap as map
use Rattle.cal_base.specs.declared.identity.Ino.{Ino}
use Rattle.change_reply.specs.ReplyBytes.{IsChangeWhy}
use Rattle.tree_law.specs.Rename.{is_at_or_below, is_directory, is_full_directory, landing, move_of, moving, moving_to, replacing}
use Rattle.tree_law.specs.Resolve.{as_directory, as_empty_directory, as_file, file_named, judged, last_of, looked_up, new_place, parent_of, prefix_of, removable, resolved, room_for, stepped, walked}
use Rattle.tree_law.specs.Tree.{Tree, node_at, root}
use Rattle.tree_law.specs.declared.node.Node.{Node}
use Rattle.tree_law.specs.declared.node.Node.TheVariants.{Directory, Regular}
use Rattle.tree_law.specs.declared.rename.Move.{Move}
use Rattle.tree_law.specs.declared.reply.Why.{Why}
use Rattle.tree_law.specs.declared.reply.Why.TheVariants.{NoEnt, Exist, DirFull, NotEmpty, Inval}

-- a refusal, if there is one, is that of a change
abbrev pub Refuses : {A : Type 0} → Result A Why → Type 0
Refuses (Ok a) = Unit {0}
Refuses (Err why) = IsChangeWhy why

found : (o : Option Ino) → Refuses (ok_or o NoEnt)
found (Some ino) = tt
found None = tt

looked : (node : Option Node) (name : List ℕ) → Refuses (looked_up node name)
looked (Some (Directory names)) name = found (map.get names name)
looked (Some (Regular file)) name = tt
looked None name = tt

step : (tree : Tree) (at : Result Ino Why) (name : List ℕ) → Refuses at → Refuses (stepped tree at name)
step tree (Ok ino) name so = looked (node_at tree ino) name
step tree (Err why) name so = so

walk : (tree : Tree) (at : Result Ino Why) (names : List (List ℕ)) → Refuses at → Refuses (walked tree at names)
walk tree at [] so = so
walk tree at (name ∷ names) so = walk tree (stepped tree at name) names (step tree at name so)

resolve : (tree : Tree) (path : List (List ℕ)) → Refuses (resolved tree path)
resolve tree path = walk tree (Ok root) path tt

test_on : (test : Option Node → Ino → Result Ino Why) (tree : Tree) (at : Result Ino Why) → ((node : Option Node) (ino : Ino) → Refuses (test node ino)) → Refuses at → Refuses (judged test tree at)
test_on test tree (Ok ino) each so = each (node_at tree ino) ino
test_on test tree (Err why) each so = so

file : (node : Option Node) (ino : Ino) → Refuses (as_file node ino)
file (Some (Directory names)) ino = tt
file (Some (Regular f)) ino = tt
file None ino = tt

directory : (node : Option Node) (ino : Ino) → Refuses (as_directory node ino)
directory (Some (Directory names)) ino = tt
directory (Some (Regular f)) ino = tt
directory None ino = tt

chosen : {A : Type 0} (b : Bool) (x y : Result A Why) → Refuses x → Refuses y → Refuses (if b then x else y)
chosen true x y p q = p
chosen false x y p q = q

empty : (node : Option Node) (ino : Ino) → Refuses (as_empty_directory node ino)
empty (Some (Directory names)) ino = chosen (map.len names == 0) (Ok ino) (Err NotEmpty) tt tt
empty (Some (Regular f)) ino = tt
empty None ino = tt

room : (name : List ℕ) (node : Option Node) (ino : Ino) → Refuses (room_for name node ino)
room name (Some (Directory names)) ino = chosen (is_some (map.get names name)) (Err Exist) (if nat_le 1024 (map.len names) then Err DirFull else Ok ino) tt (chosen (nat_le 1024 (map.len names)) (Err DirFull) (Ok ino) tt tt)
room name (Some (Regular f)) ino = tt
room name None ino = tt

pub new_place_refuses : (tree : Tree) (path : List (List ℕ)) → Refuses (new_place tree path)
new_place_refuses tree [] = tt
new_place_refuses tree (name ∷ names) = test_on (room_for (last_of (name ∷ names))) tree (resolved tree (prefix_of (name ∷ names))) (λ node ino. room (last_of (name ∷ names)) node ino) (resolve tree (prefix_of (name ∷ names)))

pub file_named_refuses : (tree : Tree) (path : List (List ℕ)) → Refuses (file_named tree path)
file_named_refuses tree path = test_on as_file tree (resolved tree path) (λ node ino. file node ino) (resolve tree path)

pub parent_of_refuses : (tree : Tree) (path : List (List ℕ)) → Refuses (parent_of tree path)
parent_of_refuses tree path = test_on as_directory tree (resolved tree (prefix_of path)) (λ node ino. directory node ino) (resolve tree (prefix_of path))

pub removable_refuses : (tree : Tree) (path : List (List ℕ)) → Refuses (removable tree path)
removable_refuses tree [] = tt
removable_refuses tree (name ∷ names) = test_on as_empty_directory tree (resolved tree (name ∷ names)) (λ node ino. empty node ino) (resolve tree (name ∷ names))

replace : (node target : Option Node) (move : Move) → Refuses (replacing node target move)
replace (Some (Directory names)) (Some (Directory others)) move = chosen (map.len others == 0) (Ok move) (Err NotEmpty) tt tt
replace (Some (Directory names)) (Some (Regular f)) move = tt
replace (Some (Directory names)) None move = tt
replace (Some (Regular f)) (Some (Directory others)) move = tt
replace (Some (Regular f)) (Some (Regular other)) move = tt
replace (Some (Regular f)) None move = tt
replace None target move = tt

land : (tree : Tree) (from to ino : Ino) (at : Result Ino Why) → Refuses (landing tree from to ino at)
land tree from to ino (Ok target) = replace (node_at tree ino) (node_at tree target) (record { from = from; to = to; ino = ino; replaced = Some target; is_same = false })
land tree from to ino (Err why) = chosen (not (from.0 == to.0) && is_full_directory (node_at tree to)) (Err DirFull) (Ok (record { from = from; to = to; ino = ino; replaced = None; is_same = false })) tt tt

move : (tree : Tree) (path goal : List (List ℕ)) (ino from to : Ino) → Refuses (moving tree path goal ino from to)
move tree path goal ino from to =
    chosen ((from.0 == to.0) && pointwise nat_eq (last_of path) (last_of goal)) (Ok (record { from = from; to = to; ino = ino; replaced = None; is_same = true }))
    (if is_directory (node_at tree ino) && is_at_or_below (prefix_of goal) path then Err Inval else landing tree from to ino (looked_up (node_at tree to) (last_of goal))) tt
    (chosen (is_directory (node_at tree ino) && is_at_or_below (prefix_of goal) path) (Err Inval) (landing tree from to ino (looked_up (node_at tree to) (last_of goal))) tt (land tree from to ino (looked_up (node_at tree to) (last_of goal))))

move_to : (tree : Tree) (path goal : List (List ℕ)) (at from to : Result Ino Why) → Refuses at → Refuses from → Refuses to → Refuses (moving_to tree path goal at from to)
move_to tree path goal (Ok ino) (Ok from) (Ok to) p q r = move tree path goal ino from to
move_to tree path goal (Ok ino) (Ok from) (Err why) p q r = r
move_to tree path goal (Ok ino) (Err why) to p q r = q
move_to tree path goal (Err why) from to p q r = p

pub move_of_refuses : (tree : Tree) (path goal : List (List ℕ)) → Refuses (move_of tree path goal)
move_of_refuses tree [] goal = tt
move_of_refuses tree (name ∷ names) [] = tt
move_of_refuses tree (name ∷ names) (other ∷ others) =
    move_to tree (name ∷ names) (other ∷ others) (resolved tree (name ∷ names)) (parent_of tree (name ∷ names)) (parent_of tree (other ∷ others))
    (resolve tree (name ∷ names)) (parent_of_refuses tree (name ∷ names)) (parent_of_refuses tree (other ∷ others))
