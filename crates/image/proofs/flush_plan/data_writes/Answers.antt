use Rattle.std.proofs.Common.{◌<◌, ◌∙◌, length, arith}
use Rattle.image.proofs.FlushPlans.{ends_at, more_by, writes_all}
use Rattle.image.proofs.flush_plan.data_writes.Goals as goal

pub loop-place-preserved : goal.loop-place-preserved
loop-place-preserved c =
    let test = c.loop-place-test.true in
    let end = c.min-place-end.ensures in
    let a : c.loop-place.place < length c.args.blocks.now = omega arith in
    let b : c.loop-place.place < length c.args.pieces.now = omega arith in
    more_by c.args.blocks.now c.args.pieces.now c.loop-place.place _ c.loop-place.writes.items _ _ a b c.loop-place.invariant c.from.ensures c.in_ok-push.ensures.items

pub returns : goal.returns
returns c = c.from_vec.ensures ∙ c.loop-place.invariant ∙ writes_all c.args.blocks.now c.args.pieces.now c.loop-place.place (ends_at c.args.blocks.now c.args.pieces.now c.loop-place.place (let end = c.min-place-end.ensures in let test = c.loop-place-test.false in omega arith))
