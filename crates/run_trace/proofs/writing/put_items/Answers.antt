use Rattle.std.proofs.Common.{drop, arith}
use Rattle.std.proofs.lemmas.List.{drop_all}
use Rattle.run_trace.proofs.WritingItems.{next_of, next_starter, one_more, all_written, all_counted}
use Rattle.run_trace.proofs.writing.put_items.Goals as goal

pub put_item-requires : goal.put_item-requires
put_item-requires c =
    next_starter _ _ _ _ _ c.item-item.result c.loop-item.counts (next_of c.args.items.now c.loop-item.item-index c.item-item.result c.loop-item-test.true c.item-item.is) c.loop-item.invariant

pub loop-item-preserved : goal.loop-item-preserved
loop-item-preserved c =
    one_more _ _ _ _ _ _ c.item-item.result c.loop-item.counts _ (next_of c.args.items.now c.loop-item.item-index c.item-item.result c.loop-item-test.true c.item-item.is) c.loop-item.invariant c.in_ok-counts.ensures.lines c.in_ok-counts.ensures.counts

pub returns-clause-lines : goal.returns-clause-lines
returns-clause-lines c = all_written _ _ _ (drop c.loop-item.item-index c.args.items.now) c.loop-item.counts (drop_all c.loop-item.item-index c.args.items.now (omega (arith, c.loop-item-test.false))) c.loop-item.invariant

pub returns-clause-steps : goal.returns-clause-steps
returns-clause-steps c = all_counted _ _ _ (drop c.loop-item.item-index c.args.items.now) c.loop-item.counts (drop_all c.loop-item.item-index c.args.items.now (omega (arith, c.loop-item-test.false))) c.loop-item.invariant
