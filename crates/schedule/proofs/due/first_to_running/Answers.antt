use Rattle.std.proofs.Common.{◌≡◌, arith}
use Rattle.schedule.proofs.NodesLemmas.{first_more, all_nodes}
use Rattle.schedule.proofs.due.first_to_running.Goals as goal

pub loop-number-preserved : goal.loop-number-preserved
loop-number-preserved c = first_more c.args.world.now c.args.links.now c.loop-number.number c.node_of-node.result c.loop-number.first c.first_if_running.result c.lesser-first.result c.node_of-node.ensures c.first_if_running.ensures c.lesser-first.ensures c.loop-number.invariant

pub returns : goal.returns
returns c =
    let above = c.loop-number-test.false in
    let within = c.loop-number.auto.number-end in
    let all : c.loop-number.number ≡ 18 = omega (arith, above, within) in
    all_nodes c.args.world.now c.args.links.now c.loop-number.number c.loop-number.first all c.loop-number.invariant
