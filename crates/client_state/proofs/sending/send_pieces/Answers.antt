use Rattle.std.proofs.Common.{◌≡◌, ◌∷◌, List, All, length, ap, subst, ◌∙◌, arith}
use Rattle.std.specs.Vec.Iter.{into_iter_items}
use Rattle.std.proofs.lemmas.List.Elements.{All-tail}
use Rattle.message.specs.Range.{IsPiece}
use Rattle.token_kind.specs.declared.piece.Piece.{Piece}
use Rattle.client_state.proofs.Outgoing.{pieces_more}
use Rattle.client_state.proofs.sending.send_pieces.Goals as goal

pub loop-piece-preserved : goal.loop-piece-preserved
loop-piece-preserved c =
    let at = c.loop-piece in
    let steps : into_iter_items at.piece-iterator ≡ c.in-Some.piece ∷ into_iter_items c.next.new.self = c.in-Some.ensures.steps.0 in (
      pieces_more at.out c.send_piece.new.out c.in-Some.piece _ _ steps c.in_ok-send_piece.ensures ∙ at.invariant.0,
      All-tail IsPiece c.in-Some.piece _ (subst (λ (list : List Piece). All IsPiece list) steps at.invariant.1),
      let was = at.invariant.2 in
          let gone = c.in-Some.ensures.steps.1 in
          let short = ap length steps in
          omega arith,
    )
