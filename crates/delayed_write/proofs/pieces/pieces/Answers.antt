use Rattle.std.proofs.Common.{rules}
use Rattle.delayed_write.specs.Delayed.{pieces_below}
use Rattle.delayed_write.proofs.PieceLemmas.{pieces_more}
use Rattle.delayed_write.proofs.pieces.pieces.Goals as goal

pub loop-index-init : goal.loop-index-init
unfolding pieces_below
loop-index-init c = search rules

pub loop-index-preserved : goal.loop-index-preserved
loop-index-preserved c = pieces_more c.args.contents.now c.args.marks.now c.loop-index.index _ _ c.loop-index.invariant (search rules)
