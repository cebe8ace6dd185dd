use Rattle.std.proofs.Common.{arith}
use Rattle.session.proofs.session.Session.tick.Goals as goal

pub overflow_add-self-inside : goal.overflow_add-self-inside
overflow_add-self-inside c = omega arith
