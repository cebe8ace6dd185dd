use Rattle.std.proofs.Common.{◌≤◌, ◌-◌, length}
use Rattle.directory.specs.Index.{IsHint}
use Rattle.directory.proofs.index.first_empty_from.Given as goal

abbrev pub invariant-loop-place : goal.invariant-loop-place
invariant-loop-place l = record {
  within : l.place ≤ length l.slots;
  hint : IsHint l.slots l.place;
}

abbrev pub decreases-loop-place : goal.decreases-loop-place
decreases-loop-place l = length l.slots - l.place
