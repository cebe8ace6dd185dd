use Rattle.std.proofs.Common.{rules}
use Rattle.client_cache.specs.Reports.{reported_below}
use Rattle.client_cache.proofs.Reported.{reported_below-more}
use Rattle.client_cache.proofs.cache.Cache.list_holds.Goals as goal

pub loop-number-init : goal.loop-number-init
unfolding reported_below
loop-number-init c = search rules

pub loop-number-preserved : goal.loop-number-preserved
loop-number-preserved c = reported_below-more c.args.self.now c.loop-number.number _ _ c.loop-number.invariant (search rules)
