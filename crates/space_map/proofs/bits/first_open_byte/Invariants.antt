use Rattle.std.proofs.Common.{◌-◌, ◌≤◌}
use Rattle.cal_base.specs.Limits.{map_size}
use Rattle.space_map.specs.SpaceMap.{AreFull}
use Rattle.space_map.proofs.bits.first_open_byte.Given as goal

abbrev pub invariant-loop-at : goal.invariant-loop-at
invariant-loop-at l = record { later : l.from ≤ l.at; within : l.at ≤ map_size; full : AreFull l.bytes l.at }

abbrev pub decreases-loop-at : goal.decreases-loop-at
decreases-loop-at l = map_size - l.at
