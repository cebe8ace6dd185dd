use Rattle.std.proofs.Common.{◌≡◌, ◌<◌, ℕ, false}
use Rattle.token_kind.specs.Hold.{is_held}
use Rattle.token_table.specs.Table.{held_of}
use Rattle.server_removals.proofs.holders.is_held_by_some.Given as goal

abbrev pub invariant-loop-number : goal.invariant-loop-number
invariant-loop-number l = (k : ℕ) → k < l.number → is_held (held_of l.table (record { 0 = k }) l.ino l.«class») ≡ false
