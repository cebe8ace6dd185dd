use Rattle.std.proofs.Common.{◌≡◌, ℕ, ◌<◌, false}
use Rattle.token_table.specs.Blockers.{blocks}
use Rattle.token_table.proofs.hold_map.HoldMap.is_free.Given as goal

abbrev pub invariant-loop-number : goal.invariant-loop-number
invariant-loop-number l = (k : ℕ) → k < l.number → blocks l.self l.c l.need (record { 0 = k }) ≡ false
