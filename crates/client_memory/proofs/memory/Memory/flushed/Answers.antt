use Rattle.std.proofs.Common.{rules}
use Rattle.client_memory.proofs.Behind.{none-out}
use Rattle.client_memory.proofs.memory.Memory.flushed.Goals as goal

pub returns-in-None-clause-out : goal.returns-in-None-clause-out
returns-in-None-clause-out c = none-out c.args.self.now c.args.number c.args.out.now (search rules)
