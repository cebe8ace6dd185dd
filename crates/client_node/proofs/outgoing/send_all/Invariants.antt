use Rattle.std.proofs.Common.{◌≡◌, ◌+◌, ◌<◌, ◌^◌, ◌++◌, length}
use Rattle.std.specs.Vec.Iter.{into_iter_items, into_iter_len}
use Rattle.cluster_law.specs.Ends.{making}
use Rattle.client_node.specs.Step.{packets_with}
use Rattle.client_node.proofs.outgoing.send_all.Given as goal

abbrev pub invariant-loop-body : goal.invariant-loop-body
invariant-loop-body l = (making l.session (into_iter_items l.body-iterator) ≡ making l.fn.session l.fn.bodies.items)
    × (l.sent ++ packets_with l.session (into_iter_items l.body-iterator) ≡ l.fn.sent ++ packets_with l.fn.session l.fn.bodies.items)
    × (into_iter_len l.body-iterator ≡ length (into_iter_items l.body-iterator))
    × (l.session.steps + length (into_iter_items l.body-iterator) < 2 ^ 60)
