-- What a call leaves aside: who is purged, and the descriptors of other clients.
use Rattle.std.proofs.Common.{◌≡◌, ◌≢◌, ℕ, true, false, List, [], ◌∷◌, length, ◌+◌, Option, Some, None, Result, Ok, Err, get_or, set, refl, ap, ◌∙◌, if◌then◌else◌}
use Rattle.std.proofs.lemmas.List.{get_or-set_other}
use Rattle.cal_base.specs.declared.identity.ClientId.{ClientId}
use Rattle.cal_base.specs.declared.identity.Ino.{Ino}
use Rattle.file_bytes.specs.Bytes.{resized, written}
use Rattle.tree_law.specs.Tree.{Tree, node_at, table_of, least_unused, empty_file, empty_directory}
use Rattle.tree_law.specs.Resolve.{new_place, file_named, removable, parent_of, last_of}
use Rattle.tree_law.specs.Rename.{is_directory, move_of}
use Rattle.tree_law.specs.Descriptors.{writable, within_limit}
use Rattle.tree_law.specs.Idle.{with_node, swept}
use Rattle.tree_law.specs.After.{put_name, take_name, with_entry, without_entry, without_directory, without_replaced, with_move, with_open, with_descriptor, with_bytes, flushed_node, carried_out}
use Rattle.tree_law.specs.Legal.{after}
use Rattle.tree_law.specs.declared.call.Call.{Call}
use Rattle.tree_law.specs.declared.call.Call.TheVariants.{Create, Mkdir, Unlink, Rmdir, Rename, Open, Close, Read, Write, Truncate, Stat, Readdir, Fsync}
use Rattle.tree_law.specs.declared.descriptor.Descriptor.{Descriptor}
use Rattle.tree_law.specs.declared.mode.Mode.{Mode}
use Rattle.tree_law.specs.declared.node.Node.{Node}
use Rattle.tree_law.specs.declared.rename.Move.{Move}
use Rattle.tree_law.specs.declared.reply.Reply.{Reply}
use Rattle.tree_law.specs.declared.reply.Reply.TheVariants.{Done, Fd, Bytes, Count, File, Dir, Names as Listed, Refused}
use Rattle.tree_law.specs.declared.reply.Why.{Why}
use Rattle.tree_law.specs.declared.entry.Entry.TheVariants.{Call as Called, Flush}
use Rattle.tree_law.proofs.IdleLemmas.{swept_tables, swept_purged}

-- a later tree has the same clients purged, and the descriptors of all but this client
pub record Aside (tree later : Tree) (client : ClientId) : Type 0 where
  pub purged : later.purged ≡ tree.purged
  pub tables : (other : ClientId) → other.0 ≢ client.0 → table_of later other ≡ table_of tree other

same : (tree : Tree) (client : ClientId) → Aside tree tree client
same tree client = record { purged = refl; tables = λ other apart. refl }

then_swept : (tree later : Tree) (client : ClientId) → Aside tree later client → Aside tree (swept later) client
then_swept tree later client aside = record {
  purged = swept_purged later 512 ∙ aside.purged;
  tables = λ other apart. ap (λ (tables : List (List (Option Descriptor))). get_or tables other.0 []) (swept_tables later 512) ∙ aside.tables other apart;
}

entry_made : (tree : Tree) (client : ClientId) (place : Result Ino Why) (name : List ℕ) (new : Option Ino) (node : Node) → Aside tree (with_entry tree place name new node) client
entry_made tree client (Ok place) name (Some made) node = record { purged = refl; tables = λ other apart. refl }
entry_made tree client (Ok place) name None node = same tree client
entry_made tree client (Err why) name new node = same tree client

entry_gone : (tree : Tree) (client : ClientId) (place : Result Ino Why) (path : List (List ℕ)) → Aside tree (without_entry tree place path) client
entry_gone tree client (Ok place) [] = same tree client
entry_gone tree client (Ok place) (name ∷ names) = record { purged = refl; tables = λ other apart. refl }
entry_gone tree client (Err why) path = same tree client

emptied : (tree later : Tree) (client : ClientId) (number : ℕ) → Aside tree later client → Aside tree (with_node later number None) client
emptied tree later client number aside = record { purged = aside.purged; tables = aside.tables }

directory_gone : (tree : Tree) (client : ClientId) (ino place : Result Ino Why) (path : List (List ℕ)) → Aside tree (without_directory tree ino place path) client
directory_gone tree client (Ok ino) place path = emptied tree (without_entry tree place path) client ino.0 (entry_gone tree client place path)
directory_gone tree client (Err why) place path = same tree client

replaced_gone : (tree later : Tree) (client : ClientId) (replaced : Option Ino) → Aside tree later client → Aside tree (without_replaced later replaced) client
replaced_gone tree later client None aside = aside
replaced_gone tree later client (Some ino) aside = elim (is_directory (node_at later ino)) as (λ b. Aside tree (if b then with_node later ino.0 None else later) client) [
  | true ↦ emptied tree later client ino.0 aside
  | false ↦ aside
]

entry_moved : (tree : Tree) (client : ClientId) (move : Result Move Why) (name goal : List ℕ) → Aside tree (with_move tree move name goal) client
entry_moved tree client (Ok move) name goal =
    let less : Tree = take_name (put_name tree move.to goal move.ino) move.from name in
    elim move.is_same as (λ b. Aside tree (if b then tree else without_replaced less move.replaced) client) [
      | true ↦ same tree client
      | false ↦ replaced_gone tree less client move.replaced (record { purged = refl; tables = λ other apart. refl })
    ]
entry_moved tree client (Err why) name goal = same tree client

descriptor_set : (tree : Tree) (client : ClientId) (fd : ℕ) (descriptor : Option Descriptor) → Aside tree (with_descriptor tree client fd descriptor) client
descriptor_set tree client fd descriptor = record { purged = refl; tables = λ other apart. get_or-set_other tree.tables client.0 other.0 _ [] apart }

file_opened : (tree : Tree) (client : ClientId) (fd : Option ℕ) (file : Result Ino Why) (mode : Mode) → Aside tree (with_open tree client fd file mode) client
file_opened tree client (Some fd) (Ok ino) mode = descriptor_set tree client fd _
file_opened tree client (Some fd) (Err why) mode = same tree client
file_opened tree client None file mode = same tree client

bytes_written : (tree : Tree) (client : ClientId) (change : List ℕ → List ℕ) (file : Result Ino Why) → Aside tree (with_bytes tree client change file) client
bytes_written tree client change (Ok ino) = record { purged = refl; tables = λ other apart. refl }
bytes_written tree client change (Err why) = same tree client

carried : (tree : Tree) (client : ClientId) (call : Call) (new : Option Ino) → Aside tree (carried_out tree client call new) client
carried tree client (Create path) new = then_swept tree _ client (entry_made tree client (new_place tree path) (last_of path) new empty_file)
carried tree client (Mkdir path) new = then_swept tree _ client (entry_made tree client (new_place tree path) (last_of path) new empty_directory)
carried tree client (Unlink path) new = then_swept tree _ client (entry_gone tree client (parent_of tree path) path)
carried tree client (Rmdir path) new = then_swept tree _ client (directory_gone tree client (removable tree path) (parent_of tree path) path)
carried tree client (Rename path goal) new = then_swept tree _ client (entry_moved tree client (move_of tree path goal) (last_of path) (last_of goal))
carried tree client (Open path mode) new = then_swept tree _ client (file_opened tree client (least_unused (table_of tree client)) (file_named tree path) mode)
carried tree client (Close fd) new = then_swept tree _ client (descriptor_set tree client fd None)
carried tree client (Read fd offset len) new = same tree client
carried tree client (Write fd offset bytes) new =
    then_swept tree _ client (bytes_written tree client (λ contents. written contents offset bytes) (within_limit (offset + length bytes) (writable (table_of tree client) fd)))
carried tree client (Truncate fd size) new = then_swept tree _ client (bytes_written tree client (λ contents. resized contents size) (within_limit size (writable (table_of tree client) fd)))
carried tree client (Stat path) new = same tree client
carried tree client (Readdir path) new = same tree client
carried tree client (Fsync fd) new = same tree client

pub called : (tree : Tree) (client : ClientId) (number : ℕ) (call : Call) (reply : Reply) (new : Option Ino) → Aside tree (after tree (Called client number call reply new)) client
called tree client number call Done new = carried tree client call new
called tree client number call (Fd fd) new = carried tree client call new
called tree client number call (Bytes bytes) new = carried tree client call new
called tree client number call (Count count) new = carried tree client call new
called tree client number call (File size) new = carried tree client call new
called tree client number call Dir new = carried tree client call new
called tree client number call (Listed names) new = carried tree client call new
called tree client number call (Refused why) new = same tree client

pub call_leaves : (tree : Tree) (client other : ClientId) (number : ℕ) (call : Call) (reply : Reply) (new : Option Ino) → other.0 ≢ client.0
    → table_of (after tree (Called client number call reply new)) other ≡ table_of tree other
call_leaves tree client other number call reply new apart = (called tree client number call reply new).tables other apart

pub flush_leaves : (tree : Tree) (client other : ClientId) (ino : Ino) → table_of (after tree (Flush client ino)) other ≡ table_of tree other
flush_leaves tree client other ino = ap (λ (tables : List (List (Option Descriptor))). get_or tables other.0 []) (swept_tables (with_node tree ino.0 (flushed_node (node_at tree ino))) 512)
