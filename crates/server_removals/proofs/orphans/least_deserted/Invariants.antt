use Rattle.std.proofs.Common.{◌-◌}
use Rattle.server_removals.proofs.Deserting.{NoneLeftBelow}
use Rattle.server_removals.proofs.orphans.least_deserted.Given as goal

abbrev pub invariant-loop-ino : goal.invariant-loop-ino
invariant-loop-ino l = NoneLeftBelow l.image l.desk.collecting.table l.from.0

abbrev pub decreases-loop-ino : goal.decreases-loop-ino
decreases-loop-ino l = 512 - l.from.0
