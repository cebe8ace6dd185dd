-- Lists by their places.
use Rattle.std.proofs.Common.{◌≡◌, ◌<◌, ℕ, zero, suc, List, [], ◌∷◌, Option, None, length, map, replicate, get_or, refl, arith}

-- a list in whose places nothing stands
pub all_none : {A : Type 0} (xs : List (Option A)) → ((k : ℕ) → k < length xs → get_or xs k None ≡ None) → xs ≡ replicate (length xs) None
all_none [] none = refl
all_none {A = A} (x ∷ xs) none =
    let here : x ≡ None = none zero (omega arith) in
    let rest : xs ≡ replicate (length xs) None = all_none xs (λ k below. none (suc k) (omega arith)) in
    λ i. here i ∷ rest i

-- a list whose places are those of another under a function
pub same_places : {A : Type 0} (f : Option A → Option A) (xs ys : List (Option A)) → length ys ≡ length xs → ((k : ℕ) → k < length xs → get_or ys k None ≡ f (get_or xs k None)) → ys ≡ map f xs
same_places f [] [] same places = refl
same_places f [] (y ∷ ys) same places = absurd (omega arith)
same_places f (x ∷ xs) [] same places = absurd (omega arith)
same_places f (x ∷ xs) (y ∷ ys) same places =
    let here : y ≡ f x = places zero (omega arith) in
    let rest : ys ≡ map f xs = same_places f xs ys (omega arith) (λ k below. places (suc k) (omega arith)) in
    λ i. here i ∷ rest i
