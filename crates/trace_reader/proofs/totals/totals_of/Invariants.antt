use Rattle.std.proofs.Common.{drop}
use Rattle.trace_reader.proofs.TotalItems.{Counted}
use Rattle.trace_reader.proofs.totals.totals_of.Given as goal

abbrev pub invariant-loop-item : goal.invariant-loop-item
invariant-loop-item l = Counted l.items (drop l.item-index l.items) l.totals
