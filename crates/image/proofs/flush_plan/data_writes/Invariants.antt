use Rattle.std.proofs.Common.{◌≡◌, take}
use Rattle.volume_plan.specs.Flushing.{data_writes}
use Rattle.image.proofs.flush_plan.data_writes.Given as goal

abbrev pub invariant-loop-place : goal.invariant-loop-place
invariant-loop-place l = l.writes.items ≡ data_writes (take l.place l.blocks) (take l.place l.pieces)
