use Rattle.std.proofs.Common.{◌≡◌, take}
use Rattle.volume_plan.specs.Flushing.{pointed_at}
use Rattle.image.proofs.flush_plan.point_at.Given as goal

abbrev pub invariant-loop-place : goal.invariant-loop-place
invariant-loop-place l = l.pointers ≡ pointed_at l.fn.pointers (take l.place l.pieces) (take l.place l.blocks)
