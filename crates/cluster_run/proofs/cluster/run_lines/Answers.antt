use Rattle.std.proofs.Common.{refl}
use Rattle.cluster_run.proofs.Ending.{at_first, goes_short, goes_whole, not_begun}
use Rattle.cluster_run.proofs.cluster.run_lines.Goals as goal

pub returns-in-Err : goal.returns-in-Err
returns-in-Err g c = not_begun _ _ _ _ c.in-Err.error c.in-Err.ensures.prints

pub returns-in-Ok-go_on : goal.returns-in-Ok-go_on
returns-in-Ok-go_on g c = goes_whole _ _ _ _ _ _ _ _ _ _ (at_first c.args.script _ _ _ _ _ _ c.in_ok-run.ensures.world c.in_ok-run.ensures.schedule c.in-Ok.ensures.world c.in-Ok.ensures.schedule) refl c.in-Ok.ensures.prints c.in-Ok-go_on.ensures c.end.ensures

pub returns : goal.returns
returns g c = goes_short _ _ _ _ _ _ _ c.in-Err-go_on.error (at_first c.args.script _ _ _ _ _ _ c.in_ok-run.ensures.world c.in_ok-run.ensures.schedule c.in-Ok.ensures.world c.in-Ok.ensures.schedule) c.in-Ok.ensures.prints c.in-Err-go_on.ensures
