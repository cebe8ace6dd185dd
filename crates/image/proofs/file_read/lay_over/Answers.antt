use Rattle.std.proofs.Common.{◌∙◌, arith}
use Rattle.image.proofs.Filling.{laid_all, laid_more}
use Rattle.image.proofs.file_read.lay_over.Goals as goal

pub loop-place-preserved : goal.loop-place-preserved
loop-place-preserved c = laid_more c.args.writes.now c.loop-place.place c.args.at c.args.into.now _ _ c.loop-place-test.true c.loop-place.invariant c.lay_one.ensures

pub returns : goal.returns
returns c = c.loop-place.invariant ∙ laid_all c.args.writes.now c.loop-place.place c.args.at c.args.into.now (let test = c.loop-place-test.false in omega arith)
