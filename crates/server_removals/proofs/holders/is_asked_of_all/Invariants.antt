use Rattle.std.proofs.Common.{◌≡◌, ◌<◌, ℕ, true}
use Rattle.server_removals.specs.Removals.{is_asked_back}
use Rattle.server_removals.proofs.holders.is_asked_of_all.Given as goal

abbrev pub invariant-loop-number : goal.invariant-loop-number
invariant-loop-number l = (k : ℕ) → k < l.number → is_asked_back l.desk l.ino l.«class» (record { 0 = k }) ≡ true
