use Rattle.cluster_run.proofs.Going.{goes_on, goes_short, not_gone}
use Rattle.cluster_run.proofs.run.Run.go_on.Goals as goal

pub loop-error-init : goal.loop-error-init
loop-error-init g c = not_gone _ _ c.requires

pub loop-error-preserved : goal.loop-error-preserved
loop-error-preserved g c = goes_on _ _ _ _ _ _ c.loop-error.invariant (rw c.in-Ok-GoesOn.field-0-is at c.in-Ok-GoesOn.ensures.turn) (rw c.in-Ok-GoesOn.field-0-is at c.in-Ok-GoesOn.ensures.room)

pub returns-in-Err : goal.returns-in-Err
returns-in-Err g c = goes_short _ _ _ _ _ _ c.in-Err.error c.loop-error.invariant c.in-Err.ensures.turn
