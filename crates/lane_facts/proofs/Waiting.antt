-- What of a list that waits is let out, over lists of anything.
use Rattle.std.proofs.Common.{◌≡◌, ◌++◌, ◌+◌, ◌-◌, ◌≤◌, ℕ, zero, suc, List, [], ◌∷◌, length, take, drop, min, refl, sym, ap, ◌∙◌, arith}
use Rattle.std.proofs.lemmas.List.{length-drop}

-- taking of nothing gives nothing
pub take-none : {X : Type 0} (n : ℕ) → take {A = X} n [] ≡ []
take-none zero = refl
take-none (suc n) = refl

-- dropping from nothing leaves nothing
drop-none : {X : Type 0} (n : ℕ) → drop {A = X} n [] ≡ []
drop-none zero = refl
drop-none (suc n) = refl

-- dropping so many, and then so many more, is dropping both together
pub drop-twice : {X : Type 0} (n m : ℕ) (xs : List X) → drop m (drop n xs) ≡ drop (n + m) xs
drop-twice zero m xs = ap (λ k. drop k xs) (omega arith)
drop-twice (suc n) m [] = drop-none m ∙ sym (drop-none (suc n + m))
drop-twice (suc n) m (x ∷ xs) = drop-twice n m xs ∙ ap (λ k. drop k (x ∷ xs)) (let e : suc (n + m) ≡ suc n + m = omega arith in e)

-- two counts that come to the same in a list take the same of it
take-alike : {X : Type 0} (n m : ℕ) (xs : List X) → min n (length xs) ≡ min m (length xs) → take n xs ≡ take m xs
take-alike n m [] e = take-none n ∙ sym (take-none m)
take-alike zero zero (x ∷ xs) e = refl
take-alike zero (suc m) (x ∷ xs) e = let c : zero ≡ suc zero = omega arith in cc
take-alike (suc n) zero (x ∷ xs) e = let c : zero ≡ suc zero = omega arith in cc
take-alike (suc n) (suc m) (x ∷ xs) e = ap (λ ys. x ∷ ys) (take-alike n m xs (omega arith))

-- the first so many of two lists together: those of the first list, and then as many of the second as lack
take-both : {X : Type 0} (n : ℕ) (xs ys : List X) → take n (xs ++ ys) ≡ take n xs ++ take (n - length xs) ys
take-both zero xs ys = sym (ap (λ k. take k ys) (let e : zero - length xs ≡ zero = omega arith in e))
take-both (suc n) [] ys = ap (λ k. take k ys) (let e : suc n ≡ suc n - zero = omega arith in e)
take-both (suc n) (x ∷ xs) ys = ap (λ zs. x ∷ zs) (take-both n xs ys) ∙ ap (λ k. x ∷ take n xs ++ take k ys) (let e : n - length xs ≡ suc n - suc (length xs) = omega arith in e)

-- dropping so many of a list, or all of it, where another follows, leaves that one whole
drop-both : {X : Type 0} (n k : ℕ) (xs ys : List X) → k ≡ min (length xs) n → drop k (xs ++ ys) ≡ drop n xs ++ ys
drop-both n zero [] ys e = ap (λ zs. zs ++ ys) (sym (drop-none n))
drop-both n (suc k) [] ys e = let c : zero ≡ suc zero = omega arith in cc
drop-both zero zero (x ∷ xs) ys e = refl
drop-both zero (suc k) (x ∷ xs) ys e = let c : zero ≡ suc zero = omega arith in cc
drop-both (suc n) zero (x ∷ xs) ys e = let c : zero ≡ suc zero = omega arith in cc
drop-both (suc n) (suc k) (x ∷ xs) ys e = drop-both n k xs ys (omega arith)

-- Of the bodies that wait, the first eight were sent. Once some of them are acknowledged and more are made,
-- as many of the queue go out as were acknowledged, and then of the new ones as many as make eight.
pub let-out : {X : Type 0} (acked : ℕ) (bodies made : List X) → acked ≤ min 8 (length bodies)
    → take (min (length bodies + length made) (acked + 8) - min (length bodies) 8) (drop (min (length bodies) 8) (bodies ++ made)) ≡ take acked (drop 8 bodies) ++ take (8 - (length bodies - acked)) made
let-out acked bodies made few =
    let out = min (length bodies + length made) (acked + 8) - min (length bodies) 8 in
    let queue = length-drop 8 bodies in
    let first : min out (length (drop 8 bodies)) ≡ min acked (length (drop 8 bodies)) = omega arith in
    let then : min (out - length (drop 8 bodies)) (length made) ≡ min (8 - (length bodies - acked)) (length made) = omega arith in
    ap (take out) (drop-both 8 (min (length bodies) 8) bodies made refl) ∙ take-both out (drop 8 bodies) made
    ∙ ap (λ xs. xs ++ take (out - length (drop 8 bodies)) made) (take-alike out acked (drop 8 bodies) first)
    ∙ ap (λ xs. take acked (drop 8 bodies) ++ xs) (take-alike (out - length (drop 8 bodies)) (8 - (length bodies - acked)) made then)
