use Rattle.std.proofs.Common.{rules}
use Rattle.client_memory.proofs.Taking.{kept-remembered}
use Rattle.client_memory.proofs.memory.Memory.take_behind.Goals as goal

pub invariant_of-self-2 : goal.invariant_of-self-2
invariant_of-self-2 c = kept-remembered _ c.replace-all.result.items c.self.inside.remembered.items c.in_ok-behind.others.items c.in_ok-behind.ensures.others (search rules) c.self.invariant

pub returns-clause-each : goal.returns-clause-each
returns-clause-each c = kept-remembered _ c.replace-all.result.items c.self.inside.remembered.items c.in_ok-behind.behind.items c.in_ok-behind.ensures.behind (search rules) c.self.invariant
