use Rattle.trace_reader.proofs.TotalItems.{views_few}
use Rattle.trace_reader.proofs.totals.check_totals.Goals as goal

pub returns-then-totals-lt18446744073709551615-clause-view :
    goal.returns-then-totals-lt18446744073709551615-clause-view
returns-then-totals-lt18446744073709551615-clause-view c = views_few c.args.items.now c.in_ok-totals.totals c.in_ok-totals.ensures c.if-totals-lt18446744073709551615.true
