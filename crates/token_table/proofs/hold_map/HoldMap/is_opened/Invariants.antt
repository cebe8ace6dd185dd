use Rattle.std.proofs.Common.{◌≡◌, ℕ, ◌<◌, false}
use Rattle.token_table.specs.Blockers.{has_open}
use Rattle.token_table.proofs.hold_map.HoldMap.is_opened.Given as goal

abbrev pub invariant-loop-number : goal.invariant-loop-number
invariant-loop-number l = (k : ℕ) → k < l.number → has_open l.self l.ino (record { 0 = k }) ≡ false
