use Rattle.std.proofs.Common.{◌≡◌, ℕ, List, arith, sym, ◌∙◌}
use Rattle.std.proofs.lemmas.List.{ext_get_or}
use Rattle.token_kind.specs.Flush.{IsFlushed}

-- two contents into which a flush turns what is kept are one
pub same_flushed : (kept : List ℕ) (size cut : ℕ) (pieces : List (ℕ × List ℕ)) (a b : List ℕ) → IsFlushed kept size cut pieces a → IsFlushed kept size cut pieces b → a ≡ b
same_flushed kept size cut pieces a b f g =
    let of_a = f.sized in
    ext_get_or 0 a b (f.sized ∙ sym g.sized) (λ i within. f.bytes i (omega arith) ∙ sym (g.bytes i (omega arith)))
