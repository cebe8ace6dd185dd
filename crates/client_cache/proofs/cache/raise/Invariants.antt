use Rattle.std.proofs.Common.{◌≡◌, ◌++◌, map, take, drop}
use Rattle.client_cache.specs.Changes.{raised}
use Rattle.client_cache.proofs.cache.raise.Given as goal

abbrev pub invariant-loop-flush : goal.invariant-loop-flush
invariant-loop-flush l = l.flushes ≡ map (raised l.ino l.«class» l.hold) (take l.flush-index l.initial.flushes) ++ drop l.flush-index l.initial.flushes
