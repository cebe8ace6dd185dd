use Rattle.std.proofs.Common.{◌+◌, arith, take, drop}
use Rattle.fence.proofs.RunsLemmas.{runs_early, runs_passed, runs_then}
use Rattle.server_writes.specs.Planned.{writes_by}
use Rattle.server_writes.proofs.Planning.{length_is, length_within, planned, planned_is, planned_more, planned_split, planned_whole}
use Rattle.server_writes.proofs.writing.write_acts.Goals as goal

pub write_act-requires-clause-room : goal.write_act-requires-clause-room
write_act-requires-clause-room g c =
    let acts = c.args.acts.now in
    let room = c.requires.room 0 in
    let all = length_is 0 acts in
    let within = length_within acts c.loop-act.act-index _ c.act-item.result c.loop-act-test.true c.act-item.is in
    let used = c.loop-act.invariant.room in
    omega arith

pub returns-in_err-write_act : goal.returns-in_err-write_act
returns-in_err-write_act g c =
    let acts = c.args.acts.now in
    let i = c.loop-act.act-index in
    let means = g.D.PortDisk.means in
    let faults = g.D.PortDisk.fault_count in
    let tried = runs_then (planned (take i acts)) (writes_by c.act-item.result) _ _ _ _ _ _ _ _ _ _ c.loop-act.invariant c.in_err-write_act.ensures.runs in
    let front = rw (← planned_more acts i _ c.act-item.result c.loop-act-test.true c.act-item.is) at tried in
    let all = runs_early (planned (take (i + 1) acts)) (planned (drop (i + 1) acts)) _ _ _ _ _ _ _ front in
    record { runs = λ view. rw (planned_is view acts, planned_split (i + 1) acts) (runs_passed _ _ _ _ _ c.from_residual.result _ _ _ all c.from_residual.ensures.1) }

pub loop-act-preserved : goal.loop-act-preserved
loop-act-preserved g c =
    let acts = c.args.acts.now in
    let i = c.loop-act.act-index in
    let made = runs_then (planned (take i acts)) (writes_by c.act-item.result) _ _ _ _ _ _ _ _ _ _ c.loop-act.invariant c.in_ok-write_act.ensures.runs in
    rw (planned_more acts i _ c.act-item.result c.loop-act-test.true c.act-item.is) made

pub returns : goal.returns
returns g c = record { runs = λ view. rw (← planned_whole view c.args.acts.now c.loop-act.act-index c.loop-act-test.false) c.loop-act.invariant }
