use Rattle.std.proofs.Common.{ap, sym, ◌∙◌, slice_set, arith}
use Rattle.std.proofs.lemmas.List.Edits.{map_over_more}
use Rattle.client_cache.specs.Changes.{raised}
use Rattle.client_cache.proofs.cache.raise.Goals as goal

pub loop-flush-preserved : goal.loop-flush-preserved
loop-flush-preserved c =
    ap (λ flush. slice_set c.loop-flush.flushes c.loop-flush.flush-index flush) (c.raise_flush.ensures ∙ ap (raised c.args.ino c.args.«class» c.args.hold) (sym c.flush-item.is))
    ∙ map_over_more (raised c.args.ino c.args.«class» c.args.hold) c.args.flushes.now c.loop-flush.flushes c.loop-flush.flush-index c.flush-item.result (omega arith) c.loop-flush.invariant c.flush-item.is
