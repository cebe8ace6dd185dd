use Rattle.std.proofs.Common.{rules, ◌≡◌}
use Rattle.schedule.specs.Nodes.{with_due}
use Rattle.schedule.proofs.NodesLemmas.{none_due, due_more}
use Rattle.schedule.proofs.due.due_nodes.Goals as goal

pub loop-number-init : goal.loop-number-init
loop-number-init c = none_due c.args.world.now c.new-due.result c.new-due.ensures

pub loop-number-preserved : goal.loop-number-preserved
loop-number-preserved c =
    let put : c.put_if_due.new.due ≡ with_due c.loop-number.due c.node_of-node.result c.idle.result = search rules in
    due_more c.args.world.now c.loop-number.number c.node_of-node.result c.idle.result c.loop-number.due c.put_if_due.new.due c.node_of-node.ensures c.idle.ensures put c.loop-number.invariant
