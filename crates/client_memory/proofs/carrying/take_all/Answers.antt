use Rattle.std.proofs.Common.{◌≡◌, ◌∷◌, List, All, length, ap, subst, ◌∙◌, arith}
use Rattle.std.specs.Vec.Iter.{into_iter_items}
use Rattle.std.proofs.lemmas.List.Elements.{All-tail}
use Rattle.message.specs.Range.{IsGrantItem}
use Rattle.token_kind.specs.declared.grant_item.GrantItem.{GrantItem}
use Rattle.client_memory.proofs.Taking.{items-more}
use Rattle.client_memory.proofs.carrying.take_all.Goals as goal

pub loop-item-preserved : goal.loop-item-preserved
loop-item-preserved c =
    let at = c.loop-item in
    let steps : into_iter_items at.item-iterator ≡ c.in-Some.item ∷ into_iter_items c.next.new.self = c.in-Some.ensures.steps.0 in (
      items-more at.cache c.take_item.new.cache c.in-Some.item _ _ steps c.take_item.ensures ∙ at.invariant.0,
      All-tail IsGrantItem c.in-Some.item _ (subst (λ (list : List GrantItem). All IsGrantItem list) steps at.invariant.1),
      let was = at.invariant.2 in
          let gone = c.in-Some.ensures.steps.1 in
          let short = ap length steps in
          omega arith,
    )
