use Rattle.std.proofs.Common.{◌≡◌, ◌*◌, ◌≤◌, take, count_by}
use Rattle.space_map.specs.SpaceMap.{free_blocks}
use Rattle.space_map.proofs.bits.count_free.Given as goal

abbrev pub invariant-loop-byte : goal.invariant-loop-byte
invariant-loop-byte l = record {
  count : l.count ≡ count_by (λ free. free) (free_blocks (take l.byte-index l.bytes));
  within : l.count ≤ 8 * l.byte-index;
}
