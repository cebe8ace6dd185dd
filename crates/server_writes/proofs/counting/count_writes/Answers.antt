use Rattle.std.proofs.Common.{◌∙◌, arith, ap, length}
use Rattle.server_writes.proofs.Planning.{length_is, length_more, length_within, on_err, planned_whole}
use Rattle.server_writes.proofs.counting.count_writes.Goals as goal

pub loop-act-preserved : goal.loop-act-preserved
loop-act-preserved c =
    let a = length_more c.args.acts.now c.loop-act.act-index _ c.act-item.result c.loop-act-test.true c.act-item.is in
    let b = c.in_ok-count.ensures.count in
    let d = c.loop-act.invariant in
    omega arith

pub returns-clause-count : goal.returns-clause-count
returns-clause-count c = λ view. c.loop-act.invariant ∙ ap (λ writes. length writes) (planned_whole view c.args.acts.now c.loop-act.act-index c.loop-act-test.false)

pub returns-in_err-count-clause-many : goal.returns-in_err-count-clause-many
returns-in_err-count-clause-many c =
    on_err c.from_residual.result (λ view.
    let a = c.in_err-count.ensures.many in
    let b = length_within c.args.acts.now c.loop-act.act-index _ c.act-item.result c.loop-act-test.true c.act-item.is in
    let d = c.loop-act.invariant in
    let e = length_is view c.args.acts.now in
    omega arith
    )
