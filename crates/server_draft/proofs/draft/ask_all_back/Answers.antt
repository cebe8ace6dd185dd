use Rattle.std.proofs.Common.{◌≡◌, ◌∷◌, List, All, length, ap, subst, arith}
use Rattle.std.specs.Vec.Iter.{into_iter_items}
use Rattle.std.proofs.lemmas.List.Elements.{All-tail}
use Rattle.cal_base.specs.declared.identity.ClientId.{ClientId}
use Rattle.token_kind.specs.declared.revoke.Revoke.{Revoke}
use Rattle.server_draft.specs.Acts.{CanBeDone, asked_back}
use Rattle.server_draft.proofs.Asking.{asked-more}
use Rattle.server_draft.proofs.draft.ask_all_back.Goals as goal

pub loop-sent-preserved : goal.loop-sent-preserved
loop-sent-preserved c =
    let at = c.loop-sent in
    let steps : into_iter_items at.sent-iterator ≡ c.in-Some.sent ∷ into_iter_items c.next.new.self = c.in-Some.ensures.steps.0 in (
      asked-more c.args.acts.now at.acts c.ask_back.new.acts c.args.revokes _ _ c.in-Some.sent steps c.in_ok-ask_back.ensures at.invariant.0,
      All-tail (λ (sent : ClientId × Revoke). CanBeDone (asked_back sent)) c.in-Some.sent _ (subst (λ (list : List (ClientId × Revoke)). All (λ (sent : ClientId × Revoke). CanBeDone (asked_back sent)) list) steps at.invariant.1),
      let was = at.invariant.2 in
          let gone = c.in-Some.ensures.steps.1 in
          let short = ap length steps in
          omega arith,
    )
