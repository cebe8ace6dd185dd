use Rattle.std.proofs.Common.{◌≡◌, replicate}
use Rattle.tree_law.specs.Tree.{no_descriptors}
use Rattle.tree_law.proofs.plain_tree.first_tables.Given as goal

abbrev pub invariant-loop-i : goal.invariant-loop-i
invariant-loop-i l = l.tables.items ≡ replicate l._i no_descriptors
