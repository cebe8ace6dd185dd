use Rattle.std.proofs.Common.{◌≡◌, ◌+◌, ◌∷◌, List, All, length, ap, subst, ◌∙◌, arith}
use Rattle.std.specs.Vec.Iter.{into_iter_items}
use Rattle.std.proofs.lemmas.List.Elements.{All-tail}
use Rattle.client_book.specs.Sound.{IsRemembered}
use Rattle.token_kind.specs.declared.revoke.Revoke.{Revoke}
use Rattle.client_memory.proofs.Behind.{room-more}
use Rattle.client_memory.proofs.Taking.{revoked-more, revoking-more}
use Rattle.client_memory.proofs.memory.Memory.revoke_all.Goals as goal

pub loop-revoke-preserved : goal.loop-revoke-preserved
loop-revoke-preserved c =
    let at = c.loop-revoke in
    let steps : into_iter_items at.revoke-iterator ≡ c.in-Some.revoke ∷ into_iter_items c.next.new.self = c.in-Some.ensures.steps.0 in
    let short = ap length steps in
    let less : length (into_iter_items at.revoke-iterator) ≡ length (into_iter_items c.next.new.self) + 1 = omega (arith, short) in (
      revoked-more at.self c.revoke.new.self c.in-Some.revoke _ _ steps c.in_ok-revoke.ensures.state ∙ at.invariant.0,
      revoking-more at.self c.revoke.new.self at.out c.revoke.new.out c.in-Some.revoke _ _ steps c.in_ok-revoke.ensures.state c.in_ok-revoke.ensures.out ∙ at.invariant.1,
      All-tail IsRemembered c.in-Some.revoke _ (subst (λ (list : List Revoke). All IsRemembered list) steps at.invariant.2),
      let was = at.invariant.3 in
          let gone = c.in-Some.ensures.steps.1 in
          omega arith,
      room-more at.self c.revoke.new.self c.in-Some.revoke (length (into_iter_items at.revoke-iterator)) (length (into_iter_items c.next.new.self)) less c.in_ok-revoke.ensures.state at.invariant.4,
    )
