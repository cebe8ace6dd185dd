use Rattle.std.proofs.Common.{◌≡◌, replicate}
use Rattle.client_cache.specs.Known.{nothing_known}
use Rattle.client_cache.proofs.cache.unknown_inodes.Given as goal

abbrev pub invariant-loop : goal.invariant-loop
invariant-loop l = l.inodes.items ≡ replicate l.counter nothing_known
