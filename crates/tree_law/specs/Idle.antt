-- Which files go of themselves: those without name, without descriptor and without unflushed write.
use Rattle.std.specs.Prelude.{◌≡◌, ◌==◌, ◌&&◌, ℕ, zero, suc, Bool, false, not, Option, Some, None, is_none, slice_set, if◌then◌else◌}
use Rattle.std.specs.List.{list_any}
use Rattle.std.specs.FinMap as map
use Rattle.tree_law.specs.Tree.{Tree, node_at}
use Rattle.tree_law.specs.declared.descriptor.Descriptor.{Descriptor}
use Rattle.tree_law.specs.declared.node.Node.{Node}
use Rattle.tree_law.specs.declared.node.Node.TheVariants.{Directory, Regular}

-- an inode has a name in a directory
abbrev pub names_it : ℕ → Option Node → Bool
names_it number (Some (Directory names)) = list_any (λ ino. ino.0 == number) (map.values names)
names_it number (Some (Regular file)) = false
names_it number None = false

-- an inode has a name
abbrev pub is_named : Tree → ℕ → Bool
is_named tree number = list_any (names_it number) tree.nodes

abbrev pub opens_it : ℕ → Option Descriptor → Bool
opens_it number (Some descriptor) = descriptor.ino.0 == number
opens_it number None = false

-- a client has an inode open
abbrev pub is_open : Tree → ℕ → Bool
is_open tree number = list_any (list_any (opens_it number)) tree.tables

-- a file of which all is flushed
abbrev pub is_flushed_file : Option Node → Bool
is_flushed_file (Some (Directory names)) = false
is_flushed_file (Some (Regular file)) = is_none file.writer
is_flushed_file None = false

-- a file without name, without descriptor and without writer
abbrev pub is_idle : Tree → ℕ → Bool
is_idle tree number = is_flushed_file (node_at tree (record { 0 = number })) && not (is_open tree number) && not (is_named tree number)

-- a tree with something else at a number
abbrev pub with_node : Tree → ℕ → Option Node → Tree
with_node tree number node = record { nodes = slice_set tree.nodes number node; tables = tree.tables; purged = tree.purged }

-- the tree without what stands at a number, if that is idle
abbrev pub dropped : Tree → ℕ → Tree
dropped tree number = if is_idle tree number then with_node tree number None else tree

-- the tree without the idle files below a number
unfoldable pub swept_below : Tree → ℕ → Tree
swept_below tree zero = tree
swept_below tree (suc number) = dropped (swept_below tree number) number

-- the tree without its idle files
abbrev pub swept : Tree → Tree
swept tree = swept_below tree 512

-- no file of the tree is idle
abbrev pub HasNoIdle : Tree → Type 0
HasNoIdle tree = (number : ℕ) → is_idle tree number ≡ false
