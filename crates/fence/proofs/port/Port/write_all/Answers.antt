use Rattle.std.proofs.Common.{◌+◌, Ok, Err, arith}
use Rattle.fence.proofs.RunsLemmas.{runs_one, runs_more, runs_within, runs_passed}
use Rattle.fence.proofs.port.Port.write_all.Goals as goal

pub returns-in_err-write : goal.returns-in_err-write
returns-in_err-write g c =
    let w = c.in_err-write.ensures in
    let one = runs_one _ _ _ _ _ (Err c.in_err-write.field-0.0) _ _ _ w.writes w.counted w.later in
    let more = runs_more c.args.writes.now c.loop-sector.sector-index _ _ _ _ _ _ _ _ _ _ (omega arith) c.loop-sector.invariant one in
    let all = runs_within c.args.writes.now (c.loop-sector.sector-index + 1) _ _ _ _ _ _ _ more in
    runs_passed c.args.writes.now _ _ _ _ c.from_residual.result _ _ _ all c.from_residual.ensures.1

pub loop-sector-preserved : goal.loop-sector-preserved
loop-sector-preserved g c =
    let w = c.in_ok-write.ensures in
    let one = runs_one _ _ _ _ _ (Ok tt) _ _ _ w.writes tt w.later in
    runs_more c.args.writes.now c.loop-sector.sector-index _ _ _ _ _ _ _ _ _ _ (omega arith) c.loop-sector.invariant one
