use Rattle.cluster_run.proofs.Ending.{is_begun}
use Rattle.cluster_run.proofs.Ends.{halt_told, run_ends}
use Rattle.std.proofs.Common.{Err}
use Rattle.cluster_run.proofs.cluster.run_script.Goals as goal

pub returns-in-Ok : goal.returns-in-Ok
returns-in-Ok g c = run_ends c.args.script _ _ _ (Err c.in-Err.error) _ _ _ c.status_of.ensures (is_begun c.args.script c.in-Ok.world _ _ c.in-Ok.ensures.begins c.in-Ok.ensures.disk c.in-Ok.ensures.stands) c.in-Err.ensures

pub returns-in-Err-Halted : goal.returns-in-Err-Halted
returns-in-Err-Halted g c = halt_told _ _ _ c.in-Err-Halted.halt _ _ _ (rw c.in-Err-Halted.field-0-is at c.in-Err-Halted.ensures.disk) c.tell_halt.ensures
