use Rattle.image.proofs.FlushPlans.{AreTaken}
use Rattle.image.proofs.flush_plan.least_blocks.Given as goal

abbrev pub invariant-loop-taken : goal.invariant-loop-taken
invariant-loop-taken l = AreTaken l.map l.left l.blocks.items l._taken
