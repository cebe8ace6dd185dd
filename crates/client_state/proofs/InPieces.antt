-- The pieces of a report are ones that a message spells.
use Rattle.std.proofs.Common.{◌≡◌, ◌+◌, ◌≤◌, ◌^◌, ◌∷◌, ◌++◌, [], ℕ, List, All, arith, length, subst, sym}
use Rattle.std.specs.List.{flat_map}
use Rattle.std.proofs.lemmas.List.Elements.{All-cons, All-head, All-tail}
use Rattle.cal_base.specs.Limits.{holds_per_piece}
use Rattle.message.specs.Range.{IsPiece}
use Rattle.report.specs.Report.{AreNumbered}
use Rattle.token_kind.specs.Token.{IsReported}
use Rattle.token_kind.specs.declared.piece.Piece.{Piece}
use Rattle.token_kind.specs.declared.reported.Reported.{Reported}

-- what holds of a list holds of both of its parts
front-of : {X : Type 0} (P : X → Type 0) (xs ys : List X) → All P (xs ++ ys) → All P xs
front-of P [] ys all = λ k d below. absurd (omega arith)
front-of P (x ∷ xs) ys all = All-cons P x xs (All-head P x (xs ++ ys) all) (front-of P xs ys (All-tail P x (xs ++ ys) all))

rest-of : {X : Type 0} (P : X → Type 0) (xs ys : List X) → All P (xs ++ ys) → All P ys
rest-of P [] ys all = all
rest-of P (x ∷ xs) ys all = rest-of P xs ys (All-tail P x (xs ++ ys) all)

abbrev holds-of : Piece → List Reported
holds-of piece = piece.holds

-- numbered on from a number, few enough, and of holds that may be reported
pieces-from : (from : ℕ) (pieces : List Piece) → AreNumbered from pieces → from + length pieces ≤ 2 ^ 16 → All (λ (piece : Piece). length piece.holds ≤ holds_per_piece) pieces → All IsReported (flat_map holds-of pieces) → All IsPiece pieces
pieces-from from [] numbered few sizes each = λ k d below. absurd (omega arith)
pieces-from from (piece ∷ pieces) numbered few sizes each =
    All-cons IsPiece piece pieces
    (record {
      index = (let at = numbered.0 in omega arith);
      count = All-head (λ (piece : Piece). length piece.holds ≤ holds_per_piece) piece pieces sizes;
      each = front-of IsReported piece.holds (flat_map holds-of pieces) each;
    })
    (pieces-from (from + 1) pieces numbered.1 (omega arith) (All-tail (λ (piece : Piece). length piece.holds ≤ holds_per_piece) piece pieces sizes) (rest-of IsReported piece.holds (flat_map holds-of pieces) each))

pub report_spelled : (holds : List Reported) (pieces : List Piece) → flat_map holds-of pieces ≡ holds → AreNumbered 0 pieces → length pieces ≤ 2 ^ 16 → All (λ (piece : Piece). length piece.holds ≤ holds_per_piece) pieces → All IsReported holds → All IsPiece pieces
report_spelled holds pieces together numbered few sizes each = pieces-from 0 pieces numbered (omega arith) sizes (subst (All IsReported) (sym together) each)
