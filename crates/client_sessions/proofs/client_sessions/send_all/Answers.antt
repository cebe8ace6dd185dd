use Rattle.std.proofs.Common.{◌≡◌, ◌∷◌, length, ap, ◌∙◌, arith}
use Rattle.std.specs.Vec.Iter.{into_iter_items}
use Rattle.client_sessions.proofs.Packets.{sent-more}
use Rattle.client_sessions.proofs.client_sessions.send_all.Goals as goal

pub loop-packet-preserved : goal.loop-packet-preserved
loop-packet-preserved c =
    let at = c.loop-packet in
    let steps : into_iter_items at.packet-iterator ≡ c.in-Some.packet ∷ into_iter_items c.next.new.self = c.in-Some.ensures.steps.0 in
    let short = ap length steps in (
      sent-more at.sent c.push.new.self _ _ c.in-Some.packet steps c.in_ok-push.ensures.ok ∙ at.invariant.0,
      let was = at.invariant.1 in
          let gone = c.in-Some.ensures.steps.1 in
          omega (arith, was, gone, short),
    )
