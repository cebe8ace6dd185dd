use Rattle.std.proofs.Common.{◌≡◌, ◌++◌, drop}
use Rattle.tree_law.specs.Path.{slashed}
use Rattle.trace_text.proofs.calls.put_slashed.Given as goal

abbrev pub invariant-loop-name : goal.invariant-loop-name
invariant-loop-name l = l.text.items ++ slashed (drop l.name-index l.names) ≡ l.fn.text.items ++ slashed l.names
