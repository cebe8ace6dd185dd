use Rattle.std.proofs.Common.{◌≡◌}
use Rattle.client_cache.specs.Reports.{reported_below}
use Rattle.client_cache.proofs.cache.Cache.list_holds.Given as goal

abbrev pub invariant-loop-number : goal.invariant-loop-number
invariant-loop-number l = l.holds ≡ reported_below l.self l.number
