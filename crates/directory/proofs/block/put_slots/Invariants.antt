use Rattle.std.proofs.Common.{◌≡◌, ◌+◌, ◌*◌, ◌++◌, take, length}
use Rattle.directory.specs.Block.{slots_bytes}
use Rattle.directory.proofs.block.put_slots.Given as goal

abbrev pub invariant-loop-slot : goal.invariant-loop-slot
invariant-loop-slot l = record {
  put : l.fields ≡ l.fn.fields ++ slots_bytes (take l.slot-index l.slots);
  length : length l.fields ≡ length l.fn.fields + 32 * l.slot-index;
}
