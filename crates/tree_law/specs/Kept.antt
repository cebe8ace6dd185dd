-- The tree less unflushed writes: what a disk has of it.
use Rattle.std.specs.Prelude.{map, Option, Some, None}
use Rattle.tree_law.specs.FileState.{kept_file}
use Rattle.tree_law.specs.Tree.{Tree}
use Rattle.tree_law.specs.declared.node.Node.{Node}
use Rattle.tree_law.specs.declared.node.Node.TheVariants.{Directory, Regular}

-- a file with what lasts of it alone
abbrev pub kept_node : Option Node → Option Node
kept_node (Some (Directory names)) = Some (Directory names)
kept_node (Some (Regular file)) = Some (Regular (kept_file file))
kept_node None = None

abbrev pub kept_tree : Tree → Tree
kept_tree tree = record { nodes = map kept_node tree.nodes; tables = tree.tables; purged = tree.purged }
