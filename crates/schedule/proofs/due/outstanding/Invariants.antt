use Rattle.std.proofs.Common.{◌≡◌, ◌≤◌}
use Rattle.schedule.specs.Nodes.{outstanding}
use Rattle.schedule.proofs.due.outstanding.Given as goal

abbrev pub invariant-loop-number : goal.invariant-loop-number
invariant-loop-number l = (l.count ≡ outstanding l.fn.world l.number) × (l.count ≤ l.number)
