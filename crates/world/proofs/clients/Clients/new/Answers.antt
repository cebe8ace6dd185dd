use Rattle.std.proofs.Common.{◌∙◌, ap, arith, length}
use Rattle.world.proofs.Keeping.{length_more, new_more}
use Rattle.world.proofs.clients.Clients.new.Goals as goal

pub loop-number-init : goal.loop-number-init
loop-number-init c = record { count = ap length c.in_ok-nodes.ensures.items; new = λ client l. absurd (omega arith) }

pub loop-number-preserved : goal.loop-number-preserved
loop-number-preserved c = record {
  count = length_more c.loop-number.nodes.items _ _ _ c.loop-number.invariant.count c.in_ok-push.ensures.items;
  new = new_more c.loop-number.nodes.items _ c.loop-number.number c.in_ok-node.node c.loop-number.invariant.count c.loop-number.invariant.new c.in_ok-node.ensures c.in_ok-push.ensures.items;
}

pub returns-clause-count : goal.returns-clause-count
returns-clause-count c = c.loop-number.invariant.count ∙ (let a = c.loop-number-test.false in let b = c.loop-number.auto.number-end in omega arith)

pub returns-clause-new : goal.returns-clause-new
returns-clause-new c = (let a = c.loop-number-test.false in λ client l. c.loop-number.invariant.new client (omega arith))
