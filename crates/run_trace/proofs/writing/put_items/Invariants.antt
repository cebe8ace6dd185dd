use Rattle.std.proofs.Common.{drop}
use Rattle.run_trace.proofs.WritingItems.{Written}
use Rattle.run_trace.proofs.writing.put_items.Given as goal

abbrev pub invariant-loop-item : goal.invariant-loop-item
invariant-loop-item l = Written l.fn.text.items l.text.items l.items (drop l.item-index l.items) l.counts
