use Rattle.std.proofs.Common.{◌≡◌, ◌≤◌, length, take}
use Rattle.directory.proofs.load.cut.Given as goal

abbrev pub invariant-loop-table : goal.invariant-loop-table
invariant-loop-table l = record {
  kept : take l.count l.table ≡ take l.count l.fn.table;
  longer : l.count ≤ length l.table;
}

abbrev pub decreases-loop-table : goal.decreases-loop-table
decreases-loop-table l = length l.table
