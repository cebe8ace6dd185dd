-- What a volume shows at a number, as a node of the tree.
use Rattle.std.specs.Prelude.{Option, Some, None}
use Rattle.image.specs.declared.shown_node.ShownNode.{ShownNode}
use Rattle.image.specs.declared.shown_node.ShownNode.TheVariants.{Directory as Slots, File, Nothing}
use Rattle.tree_law.specs.Tree.{empty_file}
use Rattle.tree_law.specs.declared.node.Node.{Node}
use Rattle.tree_law.specs.declared.node.Node.TheVariants.{Directory}
use Rattle.volume_plan.specs.Shown.{names_of}

abbrev pub node_of : ShownNode → Option Node
node_of (Slots blocks) = Some (Directory (names_of blocks.now))
node_of File = Some empty_file
node_of Nothing = None
