use Rattle.std.proofs.Common.{drop, arith, refl}
use Rattle.std.proofs.lemmas.List.{drop_all}
use Rattle.trace_reader.proofs.TotalItems.{next_of, none_yet, one_more, all_counted}
use Rattle.trace_reader.proofs.totals.totals_of.Goals as goal

pub loop-item-preserved : goal.loop-item-preserved
loop-item-preserved c = one_more _ _ _ c.item-item.result c.loop-item.totals _ (next_of c.args.items.now c.loop-item.item-index c.item-item.result c.loop-item-test.true c.item-item.is) c.loop-item.invariant c.in_ok-totals.ensures

pub returns : goal.returns
returns c = all_counted _ (drop c.loop-item.item-index c.args.items.now) c.loop-item.totals (drop_all c.loop-item.item-index c.args.items.now (omega (arith, c.loop-item-test.false))) c.loop-item.invariant

pub loop-item-init : goal.loop-item-init
loop-item-init c = none_yet _ _ (record { steps = refl; packets = refl })
