use Rattle.std.proofs.Common.{rules}
use Rattle.client_cache.proofs.KnownLemmas.{resolve_inside_at}
use Rattle.client_cache.proofs.cache.Cache.place.Goals as goal

pub returns-clause-bound : goal.returns-clause-bound
returns-clause-bound c = resolve_inside_at c.args.self.now c.args.path.now _ c.resolve.ensures (search rules)
