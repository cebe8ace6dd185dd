-- The file tree.
use Rattle.std.specs.Prelude.{◌≡◌, ◌≢◌, ◌≤◌, ◌<◌, ℕ, Bool, true, false, List, [], ◌∷◌, Option, Some, None, is_none, slice_index_or, position, replicate}
use Rattle.std.specs.FinMap as map
use Rattle.cal_base.specs.declared.identity.ClientId.{ClientId}
use Rattle.cal_base.specs.declared.identity.Ino.{Ino}
use Rattle.tree_law.specs.FileState.{new_file}
use Rattle.tree_law.specs.declared.descriptor.Descriptor.{Descriptor}
use Rattle.tree_law.specs.declared.node.Node.{Node}
use Rattle.tree_law.specs.declared.node.Node.TheVariants.{Directory, Regular}

-- the inode table, 512 places, each free or with a directory or a file; the descriptors of the 16 clients,
-- 32 places each, by their numbers; and which clients are purged
pub record Tree : Type 0 where
  pub nodes : List (Option Node)
  pub tables : List (List (Option Descriptor))
  pub purged : List Bool

abbrev pub root : Ino
root = record { 0 = 0 }

-- what stands at a number
abbrev pub node_at : Tree → Ino → Option Node
node_at tree ino = slice_index_or tree.nodes ino.0 None

abbrev pub empty_directory : Node
empty_directory = Directory map.empty

abbrev pub empty_file : Node
empty_file = Regular new_file

-- the bytes, and the writer, of what stands at a number
abbrev pub contents_of : Option Node → List ℕ
contents_of (Some (Directory names)) = []
contents_of (Some (Regular file)) = file.contents
contents_of None = []

abbrev pub writer_of : Option Node → Option ClientId
writer_of (Some (Directory names)) = None
writer_of (Some (Regular file)) = file.writer
writer_of None = None

-- the descriptors of a client
abbrev pub table_of : Tree → ClientId → List (Option Descriptor)
table_of tree client = slice_index_or tree.tables client.0 []

abbrev pub descriptor_at : Tree → ClientId → ℕ → Option Descriptor
descriptor_at tree client fd = slice_index_or (table_of tree client) fd None

-- the lowest unused descriptor; none where all are in use
abbrev pub least_unused : List (Option Descriptor) → Option ℕ
least_unused table = position is_none table

-- a client that is purged; there are none above 15, so these count as purged
abbrev pub is_purged : Tree → ClientId → Bool
is_purged tree client = slice_index_or tree.purged client.0 true

abbrev pub no_descriptors : List (Option Descriptor)
no_descriptors = replicate 32 None

-- the nodes where the root stands alone
unfoldable pub first_nodes : List (Option Node)
first_nodes = Some empty_directory ∷ replicate 511 None

-- the root alone
unfoldable pub empty_tree : Tree
empty_tree = record {
  nodes = first_nodes;
  tables = replicate 16 no_descriptors;
  purged = replicate 16 false;
}

-- a free number; 0 is the root's
pub record IsFree (tree : Tree) (ino : Ino) : Type 0 where
  pub from_one : 1 ≤ ino.0
  pub to_511 : ino.0 ≤ 511
  pub free : node_at tree ino ≡ None

-- the least free number
pub record IsLeastFree (tree : Tree) (ino : Ino) : Type 0 where
  pub free : IsFree tree ino
  pub least : (lower : ℕ) → 1 ≤ lower → lower < ino.0 → node_at tree (record { 0 = lower }) ≢ None

-- all 512 inodes are in use
abbrev pub IsFull : Tree → Type 0
IsFull tree = (number : ℕ) → 1 ≤ number → number ≤ 511 → node_at tree (record { 0 = number }) ≢ None
