use Rattle.schedule.specs.Nodes.{AreDue}
use Rattle.schedule.proofs.due.due_nodes.Given as goal

abbrev pub invariant-loop-number : goal.invariant-loop-number
invariant-loop-number l = AreDue l.fn.world l.number l.due
