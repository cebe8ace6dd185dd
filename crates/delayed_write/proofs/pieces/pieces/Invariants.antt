use Rattle.std.proofs.Common.{◌≡◌}
use Rattle.delayed_write.specs.Delayed.{pieces_below}
use Rattle.delayed_write.proofs.pieces.pieces.Given as goal

abbrev pub invariant-loop-index : goal.invariant-loop-index
invariant-loop-index l = l.pieces.items ≡ pieces_below l.contents l.marks l.index
