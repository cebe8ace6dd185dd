use Rattle.std.proofs.Common.{◌≡◌, ◌+◌, ◌∷◌, ap, ◌∙◌, length, arith}
use Rattle.std.specs.Vec.Iter.{into_iter_items}
use Rattle.client_node.proofs.Sending.{making-more, packets-more, room-more}
use Rattle.client_node.proofs.outgoing.send_all.Goals as goal

pub loop-body-preserved : goal.loop-body-preserved
loop-body-preserved c =
    let at = c.loop-body in
    let steps : into_iter_items at.body-iterator ≡ c.in-Some.body ∷ into_iter_items c.next.new.self = c.in-Some.ensures.steps.0 in
    let short = ap length steps in
    let less : length (into_iter_items at.body-iterator) ≡ length (into_iter_items c.next.new.self) + 1 = omega (arith, short) in (
      making-more at.session c.send_one.new.session c.in-Some.body _ _ steps c.in_ok-send_one.ensures.session ∙ at.invariant.0,
      packets-more at.session c.send_one.new.session at.sent c.send_one.new.sent c.in-Some.body _ _ steps c.in_ok-send_one.ensures.session c.in_ok-send_one.ensures.sent ∙ at.invariant.1,
      let was = at.invariant.2 in
          let gone = c.in-Some.ensures.steps.1 in
          omega (arith, was, gone, short),
      room-more at.session c.send_one.new.session c.in-Some.body (length (into_iter_items at.body-iterator)) (length (into_iter_items c.next.new.self)) less c.in_ok-send_one.ensures.session at.invariant.3,
    )
