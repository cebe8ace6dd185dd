use Rattle.std.proofs.Common.{◌≡◌, ◌+◌, ◌++◌, None, length, replicate}
use Rattle.directory.proofs.slot_table.SlotTable.push_block.Given as goal

abbrev pub invariant-loop : goal.invariant-loop
invariant-loop l = record {
  put : l.self ≡ l.fn.self ++ replicate l.counter None;
  size : length l.self ≡ length l.fn.self + l.counter;
}
