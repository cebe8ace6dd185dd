-- What an entry makes of the tree.
use Rattle.std.specs.Prelude.{◌+◌, ℕ, true, List, [], ◌∷◌, length, map, Option, Some, None, Result, Ok, Err, slice_set, if◌then◌else◌}
use Rattle.std.specs.FinMap as finite
use Rattle.cal_base.specs.declared.identity.ClientId.{ClientId}
use Rattle.cal_base.specs.declared.identity.Ino.{Ino}
use Rattle.file_bytes.specs.Bytes.{resized, written}
use Rattle.tree_law.specs.FileState.{changed_file, flushed_file, restored_file}
use Rattle.tree_law.specs.Tree.{Tree, node_at, table_of, least_unused, no_descriptors, empty_directory, empty_file}
use Rattle.tree_law.specs.Resolve.{new_place, file_named, removable, parent_of, last_of}
use Rattle.tree_law.specs.Rename.{move_of, is_directory}
use Rattle.tree_law.specs.Descriptors.{writable, within_limit}
use Rattle.tree_law.specs.Idle.{swept, with_node, is_idle}
use Rattle.tree_law.specs.declared.descriptor.Descriptor.{Descriptor}
use Rattle.tree_law.specs.declared.mode.Mode.{Mode}
use Rattle.tree_law.specs.declared.node.Node.{Node}
use Rattle.tree_law.specs.declared.node.Node.TheVariants.{Directory, Regular}
use Rattle.tree_law.specs.declared.call.Call.{Call}
use Rattle.tree_law.specs.declared.call.Call.TheVariants.{Create, Mkdir, Unlink, Rmdir, Rename, Open, Close, Read, Write, Truncate, Stat, Readdir, Fsync}
use Rattle.tree_law.specs.declared.rename.Move.{Move}
use Rattle.tree_law.specs.declared.reply.Reply.{Reply}
use Rattle.tree_law.specs.declared.reply.Reply.TheVariants.{Done, Refused}
use Rattle.tree_law.specs.declared.reply.Why.{Why}
use Rattle.tree_law.specs.declared.entry.Entry.{Entry}
use Rattle.tree_law.specs.declared.entry.Entry.TheVariants.{Call as Called, Flush, Purge}

-- a directory with one name more, and with one less
abbrev pub with_name : Option Node → List ℕ → Ino → Option Node
with_name (Some (Directory names)) name ino = Some (Directory (finite.insert names name ino))
with_name (Some (Regular file)) name ino = Some (Regular file)
with_name None name ino = None

abbrev pub without_name : Option Node → List ℕ → Option Node
without_name (Some (Directory names)) name = Some (Directory (finite.remove names name))
without_name (Some (Regular file)) name = Some (Regular file)
without_name None name = None

abbrev pub put_name : Tree → Ino → List ℕ → Ino → Tree
put_name tree place name ino = with_node tree place.0 (with_name (node_at tree place) name ino)

abbrev pub take_name : Tree → Ino → List ℕ → Tree
take_name tree place name = with_node tree place.0 (without_name (node_at tree place) name)

-- `create`, `mkdir`: a name in its directory, and the node that it names
abbrev pub with_entry : Tree → Result Ino Why → List ℕ → Option Ino → Node → Tree
with_entry tree (Ok place) name (Some ino) node = with_node (put_name tree place name ino) ino.0 (Some node)
with_entry tree (Ok place) name None node = tree
with_entry tree (Err why) name new node = tree

-- `unlink`: the last name of a path goes from its directory; the root has no name
abbrev pub without_entry : Tree → Result Ino Why → List (List ℕ) → Tree
without_entry tree (Ok place) [] = tree
without_entry tree (Ok place) (name ∷ names) = take_name tree place (last_of (name ∷ names))
without_entry tree (Err why) path = tree

-- `rmdir`: the name and the directory go
abbrev pub without_directory : Tree → Result Ino Why → Result Ino Why → List (List ℕ) → Tree
without_directory tree (Ok ino) place path = with_node (without_entry tree place path) ino.0 None
without_directory tree (Err why) place path = tree

-- what an entry replaces: a directory goes with its name; a file that is in use stays
abbrev pub without_replaced : Tree → Option Ino → Tree
without_replaced tree None = tree
without_replaced tree (Some ino) = if is_directory (node_at tree ino) then with_node tree ino.0 None else tree

-- `rename`: the name at the goal stands for the entry, and the old name goes
abbrev pub with_move : Tree → Result Move Why → List ℕ → List ℕ → Tree
with_move tree (Ok move) name goal =
    if move.is_same then tree
    else without_replaced (take_name (put_name tree move.to goal move.ino) move.from name) move.replaced
with_move tree (Err why) name goal = tree

abbrev pub with_table : Tree → ClientId → List (Option Descriptor) → Tree
with_table tree client table = record { nodes = tree.nodes; tables = slice_set tree.tables client.0 table; purged = tree.purged }

-- something else at a descriptor of a client
abbrev pub with_descriptor : Tree → ClientId → ℕ → Option Descriptor → Tree
with_descriptor tree client fd descriptor = with_table tree client (slice_set (table_of tree client) fd descriptor)

-- `open`: the lowest unused descriptor stands for the file
abbrev pub with_open : Tree → ClientId → Option ℕ → Result Ino Why → Mode → Tree
with_open tree client (Some fd) (Ok ino) mode = with_descriptor tree client fd (Some (record { ino = ino; mode = mode }))
with_open tree client (Some fd) (Err why) mode = tree
with_open tree client None file mode = tree

-- what stands at a number, with present bytes that a client has changed
abbrev pub changed_node : ClientId → (List ℕ → List ℕ) → Option Node → Option Node
changed_node client change (Some (Directory names)) = Some (Directory names)
changed_node client change (Some (Regular file)) = Some (Regular (changed_file client (change file.contents) file))
changed_node client change None = None

-- `write`, `truncate`
abbrev pub with_bytes : Tree → ClientId → (List ℕ → List ℕ) → Result Ino Why → Tree
with_bytes tree client change (Ok ino) = with_node tree ino.0 (changed_node client change (node_at tree ino))
with_bytes tree client change (Err why) = tree

-- what stands at a number, with present bytes that last from now on
abbrev pub flushed_node : Option Node → Option Node
flushed_node (Some (Directory names)) = Some (Directory names)
flushed_node (Some (Regular file)) = Some (Regular (flushed_file file))
flushed_node None = None

-- what stands at a number, without the unflushed writes of a client
abbrev pub restored_node : ClientId → Option Node → Option Node
restored_node client (Some (Directory names)) = Some (Directory names)
restored_node client (Some (Regular file)) = Some (Regular (restored_file client file))
restored_node client None = None

-- a client's unflushed writes and descriptors go, and it never returns
abbrev pub without_client : Tree → ClientId → Tree
without_client tree client = record {
  nodes = map (restored_node client) tree.nodes;
  tables = slice_set tree.tables client.0 no_descriptors;
  purged = slice_set tree.purged client.0 true;
}

-- the tree after a call that was carried out, and made this inode if any; idle files go where it alters anything
abbrev pub carried_out : Tree → ClientId → Call → Option Ino → Tree
carried_out tree client (Create path) new = swept (with_entry tree (new_place tree path) (last_of path) new empty_file)
carried_out tree client (Mkdir path) new = swept (with_entry tree (new_place tree path) (last_of path) new empty_directory)
carried_out tree client (Unlink path) new = swept (without_entry tree (parent_of tree path) path)
carried_out tree client (Rmdir path) new = swept (without_directory tree (removable tree path) (parent_of tree path) path)
carried_out tree client (Rename path goal) new = swept (with_move tree (move_of tree path goal) (last_of path) (last_of goal))
carried_out tree client (Open path mode) new = swept (with_open tree client (least_unused (table_of tree client)) (file_named tree path) mode)
carried_out tree client (Close fd) new = swept (with_descriptor tree client fd None)
carried_out tree client (Read fd offset len) new = tree
carried_out tree client (Write fd offset bytes) new = swept (with_bytes tree client (λ contents. written contents offset bytes) (within_limit (offset + length bytes) (writable (table_of tree client) fd)))
carried_out tree client (Truncate fd size) new = swept (with_bytes tree client (λ contents. resized contents size) (within_limit size (writable (table_of tree client) fd)))
carried_out tree client (Stat path) new = tree
carried_out tree client (Readdir path) new = tree
carried_out tree client (Fsync fd) new = tree

-- the tree after a call; a refusal changes nothing
abbrev pub after_call : Tree → ClientId → Call → Reply → Option Ino → Tree
after_call tree client call (Refused why) new = tree
after_call tree client call _ new = carried_out tree client call new

abbrev pub after : Tree → Entry → Tree
after tree (Called client number call reply new) = after_call tree client call reply new
after tree (Flush client ino) = swept (with_node tree ino.0 (flushed_node (node_at tree ino)))
after tree (Purge client) = swept (without_client tree client)

-- what a client's purge leaves at a number: a file without that client's unflushed writes, if it isn't idle then
abbrev pub purged_node : Tree → ClientId → Ino → Option Node
purged_node tree client ino = if is_idle (without_client tree client) ino.0 then None else restored_node client (node_at tree ino)

-- the tree after a client's `unlink` of a path was carried out
abbrev pub unlinked : Tree → ClientId → ℕ → List (List ℕ) → Tree
unlinked tree client number path = after tree (Called client number (Unlink path) Done None)
