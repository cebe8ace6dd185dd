-- How the tree answers a call, where neither an inode nor a block is wanting: the first refusal, else Ok.
use Rattle.std.specs.Prelude.{◌+◌, ℕ, length, Option, Some, None, Result, Ok, Err}
use Rattle.std.specs.FinMap as map
use Rattle.cal_base.specs.declared.identity.ClientId.{ClientId}
use Rattle.cal_base.specs.declared.identity.Ino.{Ino}
use Rattle.file_bytes.specs.Bytes.{read_at}
use Rattle.tree_law.specs.Tree.{Tree, node_at, contents_of, table_of, least_unused}
use Rattle.tree_law.specs.Resolve.{resolved, new_place, file_named, removable}
use Rattle.tree_law.specs.Rename.{move_of}
use Rattle.tree_law.specs.Descriptors.{opened, readable, writable, within_limit}
use Rattle.tree_law.specs.declared.node.Node.{Node}
use Rattle.tree_law.specs.declared.node.Node.TheVariants.{Directory, Regular}
use Rattle.tree_law.specs.declared.call.Call.{Call}
use Rattle.tree_law.specs.declared.call.Call.TheVariants.{Create, Mkdir, Unlink, Rmdir, Rename, Open, Close, Read, Write, Truncate, Stat, Readdir, Fsync}
use Rattle.tree_law.specs.declared.rename.Move.{Move}
use Rattle.tree_law.specs.declared.reply.Reply.{Reply}
use Rattle.tree_law.specs.declared.reply.Reply.TheVariants.{Done, Fd, Bytes, Count, File, Dir, Names as Listed, Refused}
use Rattle.tree_law.specs.declared.reply.Why.{Why}
use Rattle.tree_law.specs.declared.reply.Why.TheVariants.{NoEnt, NotDir, MFile}

abbrev pub made : Result Ino Why → Reply
made (Ok ino) = Done
made (Err why) = Refused why

abbrev pub moved : Result Move Why → Reply
moved (Ok move) = Done
moved (Err why) = Refused why

-- EMFILE before all others
abbrev pub opened_as : Option ℕ → Result Ino Why → Reply
opened_as None file = Refused MFile
opened_as (Some fd) (Ok ino) = Fd fd
opened_as (Some fd) (Err why) = Refused why

abbrev pub counted : ℕ → Result Ino Why → Reply
counted count (Ok ino) = Count count
counted count (Err why) = Refused why

abbrev pub status_of : Option Node → Reply
status_of (Some (Directory names)) = Dir
status_of (Some (Regular file)) = File (length file.contents)
status_of None = Refused NoEnt

abbrev pub listing_of : Option Node → Reply
listing_of (Some (Directory names)) = Listed (map.keys names)
listing_of (Some (Regular file)) = Refused NotDir
listing_of None = Refused NoEnt

abbrev pub bytes_of : ℕ → ℕ → Option Node → Reply
bytes_of offset count node = Bytes (read_at (contents_of node) offset count)

abbrev pub told_at : (Option Node → Reply) → Tree → Result Ino Why → Reply
told_at told tree (Ok ino) = told (node_at tree ino)
told_at told tree (Err why) = Refused why

-- the answer of the tree to a client's call
abbrev pub answer : Tree → ClientId → Call → Reply
answer tree client (Create path) = made (new_place tree path)
answer tree client (Mkdir path) = made (new_place tree path)
answer tree client (Unlink path) = made (file_named tree path)
answer tree client (Rmdir path) = made (removable tree path)
answer tree client (Rename path goal) = moved (move_of tree path goal)
answer tree client (Open path mode) = opened_as (least_unused (table_of tree client)) (file_named tree path)
answer tree client (Close fd) = made (opened (table_of tree client) fd)
answer tree client (Read fd offset len) = told_at (bytes_of offset len) tree (readable (table_of tree client) fd)
answer tree client (Write fd offset bytes) = counted (length bytes) (within_limit (offset + length bytes) (writable (table_of tree client) fd))
answer tree client (Truncate fd size) = made (within_limit size (writable (table_of tree client) fd))
answer tree client (Stat path) = told_at status_of tree (resolved tree path)
answer tree client (Readdir path) = told_at listing_of tree (resolved tree path)
answer tree client (Fsync fd) = made (opened (table_of tree client) fd)
