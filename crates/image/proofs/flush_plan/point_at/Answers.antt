use Rattle.std.proofs.Common.{[], ◌<◌, ◌∙◌, length, arith}
use Rattle.image.proofs.FlushPlans.{ends_at, pointed_all, pointed_more}
use Rattle.image.proofs.flush_plan.point_at.Goals as goal

pub loop-place-preserved : goal.loop-place-preserved
loop-place-preserved c =
    let test = c.loop-place-test.true in
    let end = c.min-place-end.ensures in
    let a : c.loop-place.place < length c.args.pieces.now = omega arith in
    let b : c.loop-place.place < length c.args.blocks.now = omega arith in
    pointed_more c.args.pointers.now c.args.pieces.now c.args.blocks.now c.loop-place.place (0, []) c.loop-place.pointers a b c.loop-place.invariant

pub returns : goal.returns
returns c = c.loop-place.invariant ∙ pointed_all c.args.pointers.now c.args.pieces.now c.args.blocks.now c.loop-place.place (ends_at c.args.blocks.now c.args.pieces.now c.loop-place.place (let end = c.min-place-end.ensures in let test = c.loop-place-test.false in omega arith))
