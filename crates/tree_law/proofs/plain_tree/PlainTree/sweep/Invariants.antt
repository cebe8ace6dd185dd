use Rattle.std.proofs.Common.{◌≡◌}
use Rattle.tree_law.specs.Idle.{swept_below}
use Rattle.tree_law.proofs.plain_tree.PlainTree.sweep.Given as goal

abbrev pub invariant-loop-number : goal.invariant-loop-number
invariant-loop-number l = l.self ≡ swept_below l.initial.self l.number
