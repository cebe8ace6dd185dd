use Rattle.std.proofs.Common.{◌≢◌, ◌≤◌, ◌<◌, ℕ, None}
use Rattle.tree_law.specs.Tree.{node_at}
use Rattle.tree_law.proofs.plain_tree.PlainTree.least_free.Given as goal

abbrev pub invariant-loop-number : goal.invariant-loop-number
invariant-loop-number l = (lower : ℕ) → 1 ≤ lower → lower < l.number → node_at l.self (record { 0 = lower }) ≢ None
