use Rattle.std.proofs.Common.{◌≡◌, ℕ, ◌+◌, List, [], ◌∷◌, Bool, true, false, cond, filter, count_by, if◌then◌else◌, refl, sym, ap, ◌∙◌, true≢false, zero-add}
use Rattle.std.proofs.lemmas.List.Sums.{sum_by-cons}

module _ {X : Type 0} (p q : X → Bool) where
  count_by-cons : (x : X) (xs : List X) → count_by p (x ∷ xs) ≡ (if p x then 1 else 0) + count_by p xs
  count_by-cons x xs = sum_by-cons (λ y. if p y then 1 else 0) x xs

  filter-keeps : (x : X) (xs : List X) → q x ≡ true → filter q (x ∷ xs) ≡ x ∷ filter q xs
  filter-keeps x xs e = ap (λ (b : Bool). cond b (x ∷ filter q xs) (filter q xs)) e

  filter-drops : (x : X) (xs : List X) → q x ≡ false → filter q (x ∷ xs) ≡ filter q xs
  filter-drops x xs e = ap (λ (b : Bool). cond b (x ∷ filter q xs) (filter q xs)) e

  -- what fails a test isn't counted
  skipped : (x : X) (n : ℕ) → p x ≡ false → (if p x then 1 else 0) + n ≡ n
  skipped x n f = ap (λ (b : Bool). (if b then 1 else 0) + n) f ∙ zero-add n

  -- a filter that keeps all that is counted leaves the count
  pub count_by-filter_all : ((x : X) → p x ≡ true → q x ≡ true) → (xs : List X) → count_by p (filter q xs) ≡ count_by p xs
  count_by-filter_all keeps [] = refl
  count_by-filter_all keeps (x ∷ xs) = by (q x) (p x) refl refl (count_by-filter_all keeps xs)
    where
      by : (a b : Bool) → q x ≡ a → p x ≡ b → count_by p (filter q xs) ≡ count_by p xs → count_by p (filter q (x ∷ xs)) ≡ count_by p (x ∷ xs)
      by true b e f ih = ap (count_by p) (filter-keeps x xs e) ∙ count_by-cons x (filter q xs) ∙ ap (λ n. (if p x then 1 else 0) + n) ih ∙ sym (count_by-cons x xs)
      by false true e f ih = absurd (true≢false (sym (keeps x f) ∙ e))
      by false false e f ih = ap (count_by p) (filter-drops x xs e) ∙ ih ∙ sym (skipped x (count_by p xs) f) ∙ sym (count_by-cons x xs)

  -- a filter that drops all that is counted leaves none
  pub count_by-filter_none : ((x : X) → p x ≡ true → q x ≡ false) → (xs : List X) → count_by p (filter q xs) ≡ 0
  count_by-filter_none drops [] = refl
  count_by-filter_none drops (x ∷ xs) = by (q x) (p x) refl refl (count_by-filter_none drops xs)
    where
      by : (a b : Bool) → q x ≡ a → p x ≡ b → count_by p (filter q xs) ≡ 0 → count_by p (filter q (x ∷ xs)) ≡ 0
      by true true e f ih = absurd (true≢false (sym e ∙ drops x f))
      by true false e f ih = ap (count_by p) (filter-keeps x xs e) ∙ count_by-cons x (filter q xs) ∙ skipped x (count_by p (filter q xs)) f ∙ ih
      by false b e f ih = ap (count_by p) (filter-drops x xs e) ∙ ih
