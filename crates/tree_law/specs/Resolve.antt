-- Resolving a path, and the refusals of the calls that name one, in their order.
use Rattle.std.specs.Prelude.{◌-◌, ◌==◌, ℕ, List, [], ◌∷◌, length, take, slice_index_or, Option, Some, None, Result, Ok, Err, ok_or, is_some, nat_le, if◌then◌else◌}
use Rattle.std.specs.FinMap as map
use Rattle.cal_base.specs.Limits.{directory_entries}
use Rattle.cal_base.specs.declared.identity.Ino.{Ino}
use Rattle.tree_law.specs.Tree.{Tree, root, node_at}
use Rattle.tree_law.specs.declared.node.Node.{Node}
use Rattle.tree_law.specs.declared.node.Node.TheVariants.{Directory, Regular}
use Rattle.tree_law.specs.declared.reply.Why.{Why}
use Rattle.tree_law.specs.declared.reply.Why.TheVariants.{Exist, NoEnt, NotDir, IsDir, NotEmpty, Busy, DirFull}

-- the names of a path before its last, and the last
abbrev pub prefix_of : List (List ℕ) → List (List ℕ)
prefix_of path = take (length path - 1) path

abbrev pub last_of : List (List ℕ) → List ℕ
last_of path = slice_index_or path (length path - 1) []

-- a name looked up in an inode: ENOTDIR in a file, ENOENT where it isn't there
abbrev pub looked_up : Option Node → List ℕ → Result Ino Why
looked_up (Some (Directory names)) name = ok_or (map.get names name) NoEnt
looked_up (Some (Regular file)) name = Err NotDir
looked_up None name = Err NoEnt

abbrev pub stepped : Tree → Result Ino Why → List ℕ → Result Ino Why
stepped tree (Ok ino) name = looked_up (node_at tree ino) name
stepped tree (Err why) name = Err why

-- the inode at which the names end, walked from this one on, or the first refusal
abbrev pub walked : Tree → Result Ino Why → List (List ℕ) → Result Ino Why
walked tree at [] = at
walked tree at (name ∷ names) = walked tree (stepped tree at name) names

-- the inode that a path names, or the first refusal on the way down from the root
abbrev pub resolved : Tree → List (List ℕ) → Result Ino Why
resolved tree path = walked tree (Ok root) path

-- what a test of the inode at which resolving ends says
abbrev pub judged : (Option Node → Ino → Result Ino Why) → Tree → Result Ino Why → Result Ino Why
judged test tree (Ok ino) = test (node_at tree ino) ino
judged test tree (Err why) = Err why

-- an inode as a file: EISDIR
abbrev pub as_file : Option Node → Ino → Result Ino Why
as_file (Some (Directory names)) ino = Err IsDir
as_file (Some (Regular file)) ino = Ok ino
as_file None ino = Err NoEnt

-- an inode as a directory: ENOTDIR
abbrev pub as_directory : Option Node → Ino → Result Ino Why
as_directory (Some (Directory names)) ino = Ok ino
as_directory (Some (Regular file)) ino = Err NotDir
as_directory None ino = Err NoEnt

-- an inode as an empty directory: ENOTDIR, ENOTEMPTY
abbrev pub as_empty_directory : Option Node → Ino → Result Ino Why
as_empty_directory (Some (Directory names)) ino = if map.len names == 0 then Ok ino else Err NotEmpty
as_empty_directory (Some (Regular file)) ino = Err NotDir
as_empty_directory None ino = Err NoEnt

-- an inode as the place of a new name: ENOTDIR, EEXIST, DIRFULL
abbrev pub room_for : List ℕ → Option Node → Ino → Result Ino Why
room_for name (Some (Directory names)) ino = if is_some (map.get names name) then Err Exist else (if nat_le directory_entries (map.len names) then Err DirFull else Ok ino)
room_for name (Some (Regular file)) ino = Err NotDir
room_for name None ino = Err NoEnt

-- the directory in which the last name of a path is looked up, or the first refusal
abbrev pub parent_of : Tree → List (List ℕ) → Result Ino Why
parent_of tree path = judged as_directory tree (resolved tree (prefix_of path))

-- `create` and `mkdir`: the directory in which the last name of a path can be made.
-- EEXIST for the root, those of resolving that directory, ENOTDIR, EEXIST, DIRFULL
abbrev pub new_place : Tree → List (List ℕ) → Result Ino Why
new_place tree [] = Err Exist
new_place tree (name ∷ names) = judged (room_for (last_of (name ∷ names))) tree (resolved tree (prefix_of (name ∷ names)))

-- `unlink` and `open`: the file that a path names. Those of resolving, EISDIR
abbrev pub file_named : Tree → List (List ℕ) → Result Ino Why
file_named tree path = judged as_file tree (resolved tree path)

-- `rmdir`: the directory that a path names and that can go. EBUSY for the root, those of resolving,
-- ENOTDIR, ENOTEMPTY
abbrev pub removable : Tree → List (List ℕ) → Result Ino Why
removable tree [] = Err Busy
removable tree (name ∷ names) = judged as_empty_directory tree (resolved tree (name ∷ names))
