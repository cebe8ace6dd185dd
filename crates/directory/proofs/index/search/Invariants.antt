use Rattle.std.proofs.Common.{◌≤◌, ◌<◌, ◌-◌, ℕ, length, slice_index}
use Rattle.tree_law.specs.Entries.{IsBefore}
use Rattle.directory.specs.Index.{name_at}
use Rattle.directory.proofs.index.search.Given as goal

abbrev pub invariant-loop-low : goal.invariant-loop-low
invariant-loop-low l = record {
  ordered : l.low ≤ l.high;
  within : l.high ≤ length l.index;
  before : (i : ℕ) → i < l.low → IsBefore (name_at l.slots (slice_index l.index i)) l.name;
  after : (i : ℕ) → l.high ≤ i → i < length l.index → IsBefore l.name (name_at l.slots (slice_index l.index i));
}

abbrev pub decreases-loop-low : goal.decreases-loop-low
decreases-loop-low l = l.high - l.low
