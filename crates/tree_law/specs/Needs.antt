-- What a call needs of tokens, and what a change of the tree touches. A class is its number: 1 Names, 2 Data,
-- 3 Attr, 4 Open. A hold is its number: 1 Read, 2 Write.
use Rattle.std.specs.Prelude.{◌+◌, ◌==◌, ℕ, List, [], ◌∷◌, ◌++◌, length, Option, Some, None, Result, Ok, Err, if◌then◌else◌}
use Rattle.cal_base.specs.declared.identity.ClientId.{ClientId}
use Rattle.cal_base.specs.declared.identity.Ino.{Ino}
use Rattle.tree_law.specs.Tree.{Tree, root, node_at, table_of, least_unused}
use Rattle.tree_law.specs.Resolve.{resolved, new_place, file_named, removable, parent_of, looked_up}
use Rattle.tree_law.specs.Rename.{move_of, is_directory}
use Rattle.tree_law.specs.Descriptors.{readable, writable, within_limit}
use Rattle.tree_law.specs.declared.descriptor.Descriptor.{Descriptor}
use Rattle.tree_law.specs.declared.node.Node.{Node}
use Rattle.tree_law.specs.declared.node.Node.TheVariants.{Directory, Regular}
use Rattle.tree_law.specs.declared.call.Call.{Call}
use Rattle.tree_law.specs.declared.call.Call.TheVariants.{Create, Mkdir, Unlink, Rmdir, Rename, Open, Read, Write, Truncate, Stat, Readdir}
use Rattle.tree_law.specs.declared.request.Want.{Want}
use Rattle.tree_law.specs.declared.request.Want.TheVariants.{Stat as WantStat, Open as WantOpen, Readdir as WantReaddir, Read as WantRead, Write as WantWrite}
use Rattle.tree_law.specs.declared.rename.Move.{Move}
use Rattle.tree_law.specs.declared.reply.Why.{Why}

-- a need: an inode, a class and a hold
abbrev pub Need : Type 0
Need = Ino × ℕ × ℕ

abbrev pub names_read : Ino → Need
names_read ino = (ino, 1, 1)

abbrev pub read_needs : Ino → List Need
read_needs ino = (ino, 2, 1) ∷ (ino, 3, 1) ∷ []

abbrev pub write_needs : Ino → List Need
write_needs ino = (ino, 2, 2) ∷ (ino, 3, 2) ∷ []

-- Names Read of what a name is looked up in, if that is a directory
abbrev pub look_needs : Option Node → Ino → List Need
look_needs (Some (Directory names)) ino = names_read ino ∷ []
look_needs (Some (Regular file)) ino = []
look_needs None ino = []

-- Names Read of each directory in which a name is looked up, from this inode down
abbrev pub walk_needs : Tree → Result Ino Why → List (List ℕ) → List Need
walk_needs tree at [] = []
walk_needs tree (Ok ino) (name ∷ names) = look_needs (node_at tree ino) ino ++ walk_needs tree (looked_up (node_at tree ino) name) names
walk_needs tree (Err why) (name ∷ names) = []

-- what the inode at which resolving ends needs: Attr for `stat` of a file, Open for `open` of one, Names
-- for `readdir` of a directory
abbrev pub stat_needs : Option Node → Ino → List Need
stat_needs (Some (Directory names)) ino = []
stat_needs (Some (Regular file)) ino = (ino, 3, 1) ∷ []
stat_needs None ino = []

abbrev pub open_needs : Option Node → Ino → List Need
open_needs (Some (Directory names)) ino = []
open_needs (Some (Regular file)) ino = (ino, 4, 1) ∷ []
open_needs None ino = []

abbrev pub end_needs : (Option Node → Ino → List Need) → Tree → Result Ino Why → List Need
end_needs needs tree (Ok ino) = needs (node_at tree ino) ino
end_needs needs tree (Err why) = []

abbrev pub path_needs : (Option Node → Ino → List Need) → Tree → List (List ℕ) → List Need
path_needs needs tree path = walk_needs tree (Ok root) path ++ end_needs needs tree (resolved tree path)

-- the needs of what a client wants, in order
abbrev pub needs_of_want : Tree → Want → List Need
needs_of_want tree (WantStat path) = path_needs stat_needs tree path
needs_of_want tree (WantOpen path) = path_needs open_needs tree path
needs_of_want tree (WantReaddir path) = path_needs look_needs tree path
needs_of_want tree (WantRead ino) = read_needs ino
needs_of_want tree (WantWrite ino) = write_needs ino

abbrev pub want_open : Option ℕ → List (List ℕ) → Option Want
want_open (Some fd) path = Some (WantOpen path)
want_open None path = None

abbrev pub want_read : Result Ino Why → Option Want
want_read (Ok ino) = Some (WantRead ino)
want_read (Err why) = None

abbrev pub want_write : Result Ino Why → Option Want
want_write (Ok ino) = Some (WantWrite ino)
want_write (Err why) = None

-- what a client with these descriptors wants for a call; nothing where that is EBADF, EMFILE or EFBIG
abbrev pub want_of : List (Option Descriptor) → Call → Option Want
want_of table (Open path mode) = want_open (least_unused table) path
want_of table (Read fd offset len) = want_read (readable table fd)
want_of table (Write fd offset bytes) = want_write (within_limit (offset + length bytes) (writable table fd))
want_of table (Truncate fd size) = want_write (within_limit size (writable table fd))
want_of table (Stat path) = Some (WantStat path)
want_of table (Readdir path) = Some (WantReaddir path)
want_of table _ = None

abbrev pub needs_of : Tree → Option Want → List Need
needs_of tree (Some want) = needs_of_want tree want
needs_of tree None = []

-- the needs of a call, in order
abbrev pub needs : Tree → ClientId → Call → List Need
needs tree client call = needs_of tree (want_of (table_of tree client) call)

-- what is touched: an inode and a class
abbrev pub Touch : Type 0
Touch = Ino × ℕ

abbrev pub touched_names : Result Ino Why → List Touch
touched_names (Ok ino) = (ino, 1) ∷ []
touched_names (Err why) = []

abbrev pub touched_file : Ino → List Touch
touched_file ino = (ino, 2) ∷ (ino, 3) ∷ []

abbrev pub touched_unlink : Result Ino Why → Result Ino Why → List Touch
touched_unlink (Ok ino) place = touched_names place ++ touched_file ino
touched_unlink (Err why) place = []

abbrev pub touched_rmdir : Result Ino Why → Result Ino Why → List Touch
touched_rmdir (Ok ino) place = touched_names place ++ (ino, 1) ∷ []
touched_rmdir (Err why) place = []

abbrev pub touched_target : Tree → Option Ino → List Touch
touched_target tree (Some ino) = if is_directory (node_at tree ino) then (ino, 1) ∷ [] else touched_file ino
touched_target tree None = []

abbrev pub touched_places : Ino → Ino → List Touch
touched_places from to = if from.0 == to.0 then (from, 1) ∷ [] else (from, 1) ∷ (to, 1) ∷ []

abbrev pub touched_rename : Tree → Result Move Why → List Touch
touched_rename tree (Ok move) = if move.is_same then [] else touched_places move.from move.to ++ touched_target tree move.replaced
touched_rename tree (Err why) = []

-- what a change touches, in order: the Names of each directory whose entries change, the Names of a directory
-- that goes, the Data and Attr of a file that loses a name; nothing where it is refused or alters nothing
abbrev pub touches : Tree → Call → List Touch
touches tree (Create path) = touched_names (new_place tree path)
touches tree (Mkdir path) = touched_names (new_place tree path)
touches tree (Unlink path) = touched_unlink (file_named tree path) (parent_of tree path)
touches tree (Rmdir path) = touched_rmdir (removable tree path) (parent_of tree path)
touches tree (Rename path goal) = touched_rename tree (move_of tree path goal)
touches tree _ = []
