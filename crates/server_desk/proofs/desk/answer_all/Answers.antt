use Rattle.server_desk.proofs.Together.{answered-next, answered-none}
use Rattle.server_desk.proofs.desk.answer_all.Goals as goal

pub loop-class-init : goal.loop-class-init
loop-class-init c = answered-none c.args.table.now c.args.client c.args.ino c.args.line.now

pub loop-class-preserved : goal.loop-class-preserved
loop-class-preserved c =
    answered-next c.args.table.now c.args.client c.args.ino c.args.items.now c.loop-class.class-index _ c.held.result c.args.line.now c.loop-class.line c.lowered.new.self c.loop-class-test.true c.loop-class.invariant
    c.held.ensures.value c.lowered.ensures.asked c.lowered.ensures.requests
