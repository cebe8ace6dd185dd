-- The first place in a list that passes a test.
use Rattle.std.proofs.Common.{◌≡◌, ◌<◌, ◌≤◌, ◌∙◌, ℕ, Bool, true, false, List, Some, None, length, cond, nat_lt, get_or, ap, arith}
use Rattle.std.specs.List.{position, position_or_len}
use Rattle.std.proofs.lemmas.List.Sums.{position_or_len_is}

lt_true : (a b : ℕ) → a < b → nat_lt a b ≡ true
lt_true a b h = grind arith

lt_false : (a b : ℕ) → b ≤ a → nat_lt a b ≡ false
lt_false a b h = grind arith

chosen : (b : Bool) (place : ℕ) → b ≡ true → cond b (Some place) None ≡ Some place
chosen b place e = ap (λ (t : Bool). cond t (Some place) None) e

not_chosen : (b : Bool) (place : ℕ) → b ≡ false → cond b (Some place) None ≡ None
not_chosen b place e = ap (λ (t : Bool). cond t (Some place) None) e

-- a place that passes, and none before it does
pub position_at : {X : Type 0} (test : X → Bool) (xs : List X) (place : ℕ) (d : X) → place < length xs → test (get_or xs place d) ≡ true
    → ((below : ℕ) → below < place → test (get_or xs below d) ≡ false) → position test xs ≡ Some place
position_at test xs place d within here before =
    let e : position_or_len test xs ≡ place = position_or_len_is test xs place d (omega arith) before (λ h. here) in
    chosen (nat_lt (position_or_len test xs) (length xs)) (position_or_len test xs) (lt_true _ _ (omega (arith, e))) ∙ ap (λ (n : ℕ). Some n) e

-- no place passes
pub position_none : {X : Type 0} (test : X → Bool) (xs : List X) (d : X) → ((place : ℕ) → place < length xs → test (get_or xs place d) ≡ false) → position test xs ≡ None
position_none test xs d none =
    let e : position_or_len test xs ≡ length xs = position_or_len_is test xs (length xs) d (omega arith) none (λ h. absurd (omega arith)) in
    not_chosen (nat_lt (position_or_len test xs) (length xs)) (position_or_len test xs) (lt_false _ _ (omega (arith, e)))
