use Rattle.std.proofs.Common.{◌≡◌, ◌-◌, ◌∷◌, Some, None, replicate}
use Rattle.tree_law.specs.Tree.{empty_directory}
use Rattle.tree_law.proofs.plain_tree.first_nodes.Given as goal

abbrev pub invariant-loop-i : goal.invariant-loop-i
invariant-loop-i l = l.nodes.items ≡ Some empty_directory ∷ replicate (l._i - 1) None
