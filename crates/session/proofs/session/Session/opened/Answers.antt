use Rattle.std.proofs.Common.{◌≡◌, ◌+◌, ◌<◌, ◌++◌, ◌∷◌, [], length, get_or, arith, ap, ◌∙◌}
use Rattle.session.specs.declared.packet.Packet.{Packet}
use Rattle.session.specs.Session.{SessionState}
use Rattle.session.proofs.SessionLemmas.{opened_more, read_same}
use Rattle.session.proofs.session.Session.opened.Goals as goal

pub loop-place-preserved : goal.loop-place-preserved
loop-place-preserved c =
    let number : c.self.inside.acknowledged ≡ c.args.self.now.acknowledged = ap (λ (s : SessionState). s.acknowledged) c.self.view_is in
    let bodies : c.self.inside.bodies.items ≡ c.args.self.now.bodies = ap (λ (s : SessionState). s.bodies) c.self.view_is in
    let long : length c.self.inside.bodies.items ≡ length c.args.self.now.bodies = ap (λ (s : SessionState). length s.bodies) c.self.view_is in
    let within : 8 + c.loop-place.place < length c.args.self.now.bodies = omega (arith, c.self.inside.bodies.ok) in
    let read : c.in_ok-body.body ≡ get_or c.args.self.now.bodies (8 + c.loop-place.place) c.in_ok-body.body =
    read_same _ _ _ c.index.result.now _ bodies c.index.ensures c.in_ok-body.ensures in
    c.in_ok-push.ensures.ok
    ∙ ap (λ (p : Packet). c.loop-place.opened ++ p ∷ []) c.packet.ensures
    ∙ opened_more c.args.self.now c.args.taken c.loop-place.place _ c.loop-place.opened c.in_ok-body.body c.loop-place.invariant within read (omega arith)
