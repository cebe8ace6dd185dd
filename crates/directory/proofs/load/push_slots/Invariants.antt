use Rattle.std.proofs.Common.{◌≡◌, ◌+◌, ◌-◌, ◌*◌, ◌≤◌, length}
use Rattle.directory.specs.Loading.{Loaded}
use Rattle.directory.proofs.load.push_slots.Given as goal

abbrev pub invariant-loop-rest : goal.invariant-loop-rest
invariant-loop-rest l = record {
  loaded : Loaded l.fn.table l.sector (length l.table - length l.fn.table) l.rest l.table;
  left : length l.rest + 32 * length l.table ≡ 4096 + 32 * length l.fn.table;
  longer : length l.fn.table ≤ length l.table;
  within : length l.table ≤ length l.fn.table + 128;
}

abbrev pub decreases-loop-rest : goal.decreases-loop-rest
decreases-loop-rest l = l.end - length l.table
