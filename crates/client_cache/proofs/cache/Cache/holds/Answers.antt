use Rattle.std.proofs.Common.{rules, subst}
use Rattle.client_cache.specs.IsKnown.{IsKnown}
use Rattle.client_cache.proofs.Listed.{is_report}
use Rattle.client_cache.proofs.cache.Cache.holds.Goals as goal

pub returns-clause-report : goal.returns-clause-report
returns-clause-report c = is_report c.args.self.now c.in_ok-holds.holds (subst IsKnown c.self.view_is c.self.invariant) (search rules)
