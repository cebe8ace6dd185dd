use Rattle.token_table.specs.Table.{same_client}
use Rattle.token_table.proofs.Lists.{filters_next}
use Rattle.token_table.proofs.hold_map.put_own.Goals as goal

pub loop-write-preserved : goal.loop-write-preserved
loop-write-preserved c =
    filters_next (λ w. same_client c.args.c w.0) c.args.writes.now c.loop-write.write-index _ c.args.last.now.items c.loop-write.last.items c.put_if.new.writes.items _ c.loop-write-test.true c.loop-write.invariant c.eq.ensures c.in_ok-put_if.ensures
