use Rattle.std.proofs.Common.{◌+◌, ◌≤◌, length, take}
use Rattle.indexmap.specs.IndexMap.{spare}
use Rattle.revocation.specs.Revokes.{AsksAll}
use Rattle.revocation.proofs.asked.ask_all.Given as goal

abbrev pub invariant-loop-b : goal.invariant-loop-b
invariant-loop-b l = AsksAll l.fn.asked.entries l.asked.entries (take l.b-index l.blockers) × (length l.blockers ≤ spare l.asked + l.b-index)
