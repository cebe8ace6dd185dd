use Rattle.world.proofs.Counting.{step-counted}
use Rattle.world.proofs.laws.a_step_is_counted.Goals as goal

pub returns : goal.returns
returns c = step-counted
