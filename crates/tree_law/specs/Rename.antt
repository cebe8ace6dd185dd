-- The refusals of `rename`, in their order, and what it moves.
use Rattle.std.specs.Prelude.{◌==◌, ◌&&◌, ℕ, Bool, true, false, not, nat_eq, nat_le, List, [], ◌∷◌, Option, Some, None, Result, Ok, Err, if◌then◌else◌}
use Rattle.std.specs.Cmp.Lexicographic.{pointwise}
use Rattle.std.specs.List.{starts_with}
use Rattle.std.specs.FinMap as map
use Rattle.cal_base.specs.Limits.{directory_entries}
use Rattle.cal_base.specs.declared.identity.Ino.{Ino}
use Rattle.tree_law.specs.Tree.{Tree, node_at}
use Rattle.tree_law.specs.Resolve.{resolved, parent_of, prefix_of, last_of, looked_up}
use Rattle.tree_law.specs.declared.node.Node.{Node}
use Rattle.tree_law.specs.declared.node.Node.TheVariants.{Directory, Regular}
use Rattle.tree_law.specs.declared.rename.Move.{Move}
use Rattle.tree_law.specs.declared.reply.Why.{Why}
use Rattle.tree_law.specs.declared.reply.Why.TheVariants.{NotDir, IsDir, NotEmpty, Inval, Busy, DirFull}

abbrev pub is_directory : Option Node → Bool
is_directory (Some (Directory names)) = true
is_directory (Some (Regular file)) = false
is_directory None = false

abbrev pub is_full_directory : Option Node → Bool
is_full_directory (Some (Directory names)) = nat_le directory_entries (map.len names)
is_full_directory (Some (Regular file)) = false
is_full_directory None = false

-- a path names a place at or below that of another where it begins with its names
abbrev pub is_at_or_below : List (List ℕ) → List (List ℕ) → Bool
is_at_or_below path upper = starts_with (pointwise nat_eq) path upper

-- why a node can't replace another: EISDIR where a file meets a directory, ENOTDIR where a directory
-- meets a file, ENOTEMPTY where a directory meets one that has entries
abbrev pub replacing : Option Node → Option Node → Move → Result Move Why
replacing (Some (Directory names)) (Some (Directory others)) move = if map.len others == 0 then Ok move else Err NotEmpty
replacing (Some (Directory names)) (Some (Regular file)) move = Err NotDir
replacing (Some (Directory names)) None move = Ok move
replacing (Some (Regular file)) (Some (Directory others)) move = Err IsDir
replacing (Some (Regular file)) (Some (Regular other)) move = Ok move
replacing (Some (Regular file)) None move = Ok move
replacing None target move = Ok move

-- the entry lands in place of what the new name stands for, or as one entry more: DIRFULL in another directory
abbrev pub landing : Tree → Ino → Ino → Ino → Result Ino Why → Result Move Why
landing tree from to ino (Ok target) = replacing (node_at tree ino) (node_at tree target) (record { from = from; to = to; ino = ino; replaced = Some target; is_same = false })
landing tree from to ino (Err why) =
    if not (from.0 == to.0) && is_full_directory (node_at tree to) then Err DirFull
    else Ok (record { from = from; to = to; ino = ino; replaced = None; is_same = false })

-- both names are those of one entry: nothing moves. EINVAL where a directory would move into itself
abbrev pub moving : Tree → List (List ℕ) → List (List ℕ) → Ino → Ino → Ino → Result Move Why
moving tree path goal ino from to =
    if (from.0 == to.0) && pointwise nat_eq (last_of path) (last_of goal) then Ok (record { from = from; to = to; ino = ino; replaced = None; is_same = true })
    else (if is_directory (node_at tree ino) && is_at_or_below (prefix_of goal) path then Err Inval
    else landing tree from to ino (looked_up (node_at tree to) (last_of goal)))

abbrev pub moving_to : Tree → List (List ℕ) → List (List ℕ) → Result Ino Why → Result Ino Why → Result Ino Why → Result Move Why
moving_to tree path goal (Ok ino) (Ok from) (Ok to) = moving tree path goal ino from to
moving_to tree path goal (Ok ino) (Ok from) (Err why) = Err why
moving_to tree path goal (Ok ino) (Err why) to = Err why
moving_to tree path goal (Err why) from to = Err why

-- what `rename` of a path to a goal moves, or the first refusal: EBUSY if either is the root; those of
-- resolving the path; those of resolving the goal's parent, ENOTDIR; EINVAL; EISDIR, ENOTDIR; ENOTEMPTY; DIRFULL
abbrev pub move_of : Tree → List (List ℕ) → List (List ℕ) → Result Move Why
move_of tree [] goal = Err Busy
move_of tree (name ∷ names) [] = Err Busy
move_of tree (name ∷ names) (other ∷ others) = moving_to tree (name ∷ names) (other ∷ others) (resolved tree (name ∷ names)) (parent_of tree (name ∷ names)) (parent_of tree (other ∷ others))
