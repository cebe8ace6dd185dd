use Rattle.std.proofs.Common.{arith}
use Rattle.image.proofs.FlushPlans.{taken_all, taken_last, taken_more, taken_none}
use Rattle.image.proofs.flush_plan.least_blocks.Goals as goal
use Rattle.image.proofs.flush_plan.least_blocks.Goals.{else-loop-taken-test, then-loop-taken-test+in_default}

pub loop-taken-init : goal.loop-taken-init
loop-taken-init c = taken_none c.args.map.now _ _ c.requires c.copy-left.ensures c.in_ok-blocks.ensures.items

pub loop-taken-preserved : goal.loop-taken-preserved
loop-taken-preserved c = taken_more c.args.map.now c.loop-taken.left _ c.loop-taken.blocks.items _ c.loop-taken._taken c.in-Some.block c.loop-taken.invariant c.in-Some.ensures.least c.in-Some.ensures.taken c.in_ok-push.ensures.items

pub returns : goal.returns
returns c = elim c.loop-taken-test.branch [
  | else-loop-taken-test w ↦ taken_all c.args.map.now c.loop-taken.left c.loop-taken.blocks.items c.loop-taken._taken c.args.count c.loop-taken.invariant (let a = c.loop-taken.auto._taken-end in let b = w.loop-taken-test.false in omega arith)
  | then-loop-taken-test+in_default w ↦ taken_last c.args.map.now c.loop-taken.left c.loop-taken.blocks.items c.loop-taken._taken c.args.count c.loop-taken.invariant c.loop-taken.auto._taken-end w.in_default.ensures.none
]
