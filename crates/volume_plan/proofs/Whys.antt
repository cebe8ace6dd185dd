-- A change is refused for what stands on its paths, in the words of a change's reply.
use Rattle.std.proofs.Common.{◌≡◌, ◌==◌, ◌&&◌, ℕ, Bool, true, false, not, List, [], ◌∷◌, Option, Some, None, Result, Ok, Err, ok_or, is_some, ap, subst, if◌then◌else◌}
use Rattle.std.specs.Prelude.{nat_eq, nat_le}
use Rattle.std.specs.Cmp.Lexicographic.{pointwise}
use Rattle.std.specs.FinMap as map
use Rattle.cal_base.specs.declared.identity.Ino.{Ino}
use Rattle.change_reply.specs.ReplyBytes.{IsChangeWhy}
use Rattle.tree_law.specs.Rename.{is_at_or_below, is_directory, is_full_directory, landing, move_of, moving, moving_to, replacing}
use Rattle.tree_law.specs.Resolve.{as_directory, as_empty_directory, as_file, file_named, judged, last_of, looked_up, new_place, parent_of, prefix_of, removable, resolved, room_for, walked}
use Rattle.tree_law.specs.Tree.{Tree, node_at, root}
use Rattle.tree_law.specs.declared.node.Node.{Node}
use Rattle.tree_law.specs.declared.node.Node.TheVariants.{Directory, Regular}
use Rattle.tree_law.specs.declared.rename.Move.{Move}
use Rattle.tree_law.specs.declared.reply.Why.{Why}
use Rattle.tree_law.specs.declared.reply.Why.TheVariants.{Exist, NoEnt, NotDir, IsDir, NotEmpty, Inval, Busy, DirFull}

-- all that a result may be refused for is what a change may be
abbrev pub HasWhys : {A : Type 0} → Result A Why → Type 0
HasWhys r = (why : Why) → r ≡ Err why → IsChangeWhy why

fine : {A : Type 0} (x : A) → HasWhys (Ok x)
fine x why e = absurd (cc)

known : {A : Type 0} (why : Why) → IsChangeWhy why → HasWhys {A = A} (Err why)
known why is other e = (let same : why ≡ other = cc in subst IsChangeWhy same is)

either : {A : Type 0} (b : Bool) (x y : Result A Why) → HasWhys x → HasWhys y → HasWhys (if b then x else y)
either true x y p q = p
either false x y p q = q

found_whys : (found : Option Ino) → HasWhys (ok_or found NoEnt)
found_whys (Some ino) = fine ino
found_whys None = known NoEnt tt

looked_whys : (node : Option Node) (name : List ℕ) → HasWhys (looked_up node name)
looked_whys (Some (Directory names)) name = found_whys (map.get names name)
looked_whys (Some (Regular file)) name = known NotDir tt
looked_whys None name = known NoEnt tt

walked_whys : (tree : Tree) (names : List (List ℕ)) (at : Result Ino Why) → HasWhys at → HasWhys (walked tree at names)
walked_whys tree [] at h = h
walked_whys tree (name ∷ names) (Ok ino) h = walked_whys tree names (looked_up (node_at tree ino) name) (looked_whys (node_at tree ino) name)
walked_whys tree (name ∷ names) (Err why) h = walked_whys tree names (Err why) h

pub resolved_whys : (tree : Tree) (path : List (List ℕ)) → HasWhys (resolved tree path)
resolved_whys tree path = walked_whys tree path (Ok root) (fine root)

judged_whys : (test : Option Node → Ino → Result Ino Why) → ((node : Option Node) (ino : Ino) → HasWhys (test node ino)) → (tree : Tree) (r : Result Ino Why) → HasWhys r → HasWhys (judged test tree r)
judged_whys test all tree (Ok ino) h = all (node_at tree ino) ino
judged_whys test all tree (Err why) h = h

file_whys : (node : Option Node) (ino : Ino) → HasWhys (as_file node ino)
file_whys (Some (Directory names)) ino = known IsDir tt
file_whys (Some (Regular file)) ino = fine ino
file_whys None ino = known NoEnt tt

directory_whys : (node : Option Node) (ino : Ino) → HasWhys (as_directory node ino)
directory_whys (Some (Directory names)) ino = fine ino
directory_whys (Some (Regular file)) ino = known NotDir tt
directory_whys None ino = known NoEnt tt

empty_whys : (node : Option Node) (ino : Ino) → HasWhys (as_empty_directory node ino)
empty_whys (Some (Directory names)) ino = either (map.len names == 0) (Ok ino) (Err NotEmpty) (fine ino) (known NotEmpty tt)
empty_whys (Some (Regular file)) ino = known NotDir tt
empty_whys None ino = known NoEnt tt

room_whys : (name : List ℕ) (node : Option Node) (ino : Ino) → HasWhys (room_for name node ino)
room_whys name (Some (Directory names)) ino =
    either (is_some (map.get names name)) (Err Exist) (if nat_le 1024 (map.len names) then Err DirFull else Ok ino) (known Exist tt)
    (either (nat_le 1024 (map.len names)) (Err DirFull) (Ok ino) (known DirFull tt) (fine ino))
room_whys name (Some (Regular file)) ino = known NotDir tt
room_whys name None ino = known NoEnt tt

pub parent_whys : (tree : Tree) (path : List (List ℕ)) → HasWhys (parent_of tree path)
parent_whys tree path = judged_whys as_directory directory_whys tree (resolved tree (prefix_of path)) (resolved_whys tree (prefix_of path))

pub new_place_whys : (tree : Tree) (path : List (List ℕ)) → HasWhys (new_place tree path)
new_place_whys tree [] = known Exist tt
new_place_whys tree (name ∷ names) = judged_whys (room_for (last_of (name ∷ names))) (room_whys (last_of (name ∷ names))) tree (resolved tree (prefix_of (name ∷ names))) (resolved_whys tree (prefix_of (name ∷ names)))

pub file_named_whys : (tree : Tree) (path : List (List ℕ)) → HasWhys (file_named tree path)
file_named_whys tree path = judged_whys as_file file_whys tree (resolved tree path) (resolved_whys tree path)

pub removable_whys : (tree : Tree) (path : List (List ℕ)) → HasWhys (removable tree path)
removable_whys tree [] = known Busy tt
removable_whys tree (name ∷ names) = judged_whys as_empty_directory empty_whys tree (resolved tree (name ∷ names)) (resolved_whys tree (name ∷ names))

replacing_whys : (node target : Option Node) (move : Move) → HasWhys (replacing node target move)
replacing_whys (Some (Directory names)) (Some (Directory others)) move = either (map.len others == 0) (Ok move) (Err NotEmpty) (fine move) (known NotEmpty tt)
replacing_whys (Some (Directory names)) (Some (Regular file)) move = known NotDir tt
replacing_whys (Some (Directory names)) None move = fine move
replacing_whys (Some (Regular file)) (Some (Directory others)) move = known IsDir tt
replacing_whys (Some (Regular file)) (Some (Regular other)) move = fine move
replacing_whys (Some (Regular file)) None move = fine move
replacing_whys None target move = fine move

landing_whys : (tree : Tree) (from to ino : Ino) (r : Result Ino Why) → HasWhys (landing tree from to ino r)
landing_whys tree from to ino (Ok target) = replacing_whys (node_at tree ino) (node_at tree target) (record { from = from; to = to; ino = ino; replaced = Some target; is_same = false })
landing_whys tree from to ino (Err why) =
    let move : Move = record { from = from; to = to; ino = ino; replaced = None; is_same = false } in
    either (not (from.0 == to.0) && is_full_directory (node_at tree to)) (Err DirFull) (Ok move) (known DirFull tt) (fine move)

moving_whys : (tree : Tree) (path goal : List (List ℕ)) (ino from to : Ino) → HasWhys (moving tree path goal ino from to)
moving_whys tree path goal ino from to =
    let move : Move = record { from = from; to = to; ino = ino; replaced = None; is_same = true } in
    let lands : Result Move Why = landing tree from to ino (looked_up (node_at tree to) (last_of goal)) in
    either ((from.0 == to.0) && pointwise nat_eq (last_of path) (last_of goal)) (Ok move) (if is_directory (node_at tree ino) && is_at_or_below (prefix_of goal) path then Err Inval else lands) (fine move)
    (either (is_directory (node_at tree ino) && is_at_or_below (prefix_of goal) path) (Err Inval) lands (known Inval tt) (landing_whys tree from to ino (looked_up (node_at tree to) (last_of goal))))

moving_to_whys : (tree : Tree) (path goal : List (List ℕ)) (x y z : Result Ino Why) → HasWhys x → HasWhys y → HasWhys z → HasWhys (moving_to tree path goal x y z)
moving_to_whys tree path goal (Ok ino) (Ok from) (Ok to) p q r = moving_whys tree path goal ino from to
moving_to_whys tree path goal (Ok ino) (Ok from) (Err why) p q r = λ other e. r other (let same : why ≡ other = cc in ap (λ (w : Why). Err w) same)
moving_to_whys tree path goal (Ok ino) (Err why) z p q r = λ other e. q other (let same : why ≡ other = cc in ap (λ (w : Why). Err w) same)
moving_to_whys tree path goal (Err why) y z p q r = λ other e. p other (let same : why ≡ other = cc in ap (λ (w : Why). Err w) same)

pub move_whys : (tree : Tree) (path goal : List (List ℕ)) → HasWhys (move_of tree path goal)
move_whys tree [] goal = known Busy tt
move_whys tree (name ∷ names) [] = known Busy tt
move_whys tree (name ∷ names) (other ∷ others) =
    moving_to_whys tree (name ∷ names) (other ∷ others) (resolved tree (name ∷ names)) (parent_of tree (name ∷ names)) (parent_of tree (other ∷ others))
    (resolved_whys tree (name ∷ names)) (parent_whys tree (name ∷ names)) (parent_whys tree (other ∷ others))
