use Rattle.std.proofs.Common.{rules}
use Rattle.client_cache.proofs.KnownLemmas.{numbered_bound}
use Rattle.client_cache.proofs.cache.Cache.flushed.Goals as goal

pub settle-requires : goal.settle-requires
settle-requires c = numbered_bound c.args.self.now c.args.number c.in-Some.left (search rules) (search rules)

pub returns-in-Some-clause-bound : goal.returns-in-Some-clause-bound
returns-in-Some-clause-bound c = numbered_bound c.args.self.now c.args.number c.in-Some.left (search rules) (search rules)
