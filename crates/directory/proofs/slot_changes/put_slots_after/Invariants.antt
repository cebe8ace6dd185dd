use Rattle.std.proofs.Common.{◌≡◌, ◌+◌, ◌*◌, ◌++◌, length, take, drop}
use Rattle.directory.specs.Block.{slots_bytes}
use Rattle.directory.specs.Changed.{after}
use Rattle.directory.proofs.slot_changes.put_slots_after.Given as goal

abbrev pub invariant-loop-offset : goal.invariant-loop-offset
invariant-loop-offset l = record {
  put : l.fields ≡ l.fn.fields ++ slots_bytes (take l.offset (drop (128 * l.block) (after l.changes l.slots)));
  size : length l.fields ≡ length l.fn.fields + 32 * l.offset;
}
