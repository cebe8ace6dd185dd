-- The first of a list, and whether there is one.
use Rattle.std.proofs.Common.{◌≡◌, ◌==◌, ◌++◌, ◌∷◌, [], List, Bool, true, false, Option, Some, None, length, refl, sym, ap, ◌∙◌, true≢false}
use Rattle.std.specs.Option.{option_map}
use Rattle.std.specs.Prelude.{slice_get}
use Rattle.std.proofs.lemmas.List.{append-nil}
use Rattle.cluster_law.specs.Lists.{first_of, is_empty}

-- lists of which the first has something
pub not-free : {X : Type 0} (xs ys : List X) (b : Bool) → b ≡ (length xs == 0) → b ≡ false → b ≡ is_empty (xs ++ ys)
not-free [] ys b e f = absurd (true≢false (sym e ∙ f))
not-free (x ∷ xs) ys b e f = f

-- of two lists together none is there exactly where both are empty
pub both-empty : {X : Type 0} (xs ys : List X) → is_empty (xs ++ ys) ≡ true → (xs ≡ []) × (ys ≡ [])
both-empty [] [] e = (refl, refl)
both-empty [] (y ∷ ys) e = absurd (true≢false (sym e))
both-empty (x ∷ xs) ys e = absurd (true≢false (sym e))

pub empty-is : {X : Type 0} (xs : List X) → is_empty xs ≡ true → xs ≡ []
empty-is [] e = refl
empty-is (x ∷ xs) e = absurd (true≢false (sym e))

-- the first of two lists together, as what blocks
pub first-front : {X Y : Type 0} (f : X → Y) (zs xs ys : List X) (x : X) (y : Y) → zs ≡ xs → Some x ≡ slice_get zs 0 → y ≡ f x → Some y ≡ option_map f (first_of (xs ++ ys))
first-front f zs [] ys x y same e g = absurd (none zs same e)
  where
    none : (zs : List _) → zs ≡ [] → Some x ≡ slice_get zs 0 → ⊥
    none [] s e = absurd (cc)
    none (z ∷ zs) s e = absurd (cc)
first-front f zs (w ∷ xs) ys x y same e g =
    let is : ◌≡◌ {A = Option _} (Some x) (Some w) = e ∙ ap (λ l. slice_get l 0) same in
    let one : x ≡ w = cc in
    ap (λ z. Some z) (g ∙ ap f one)

pub first-behind : {X Y : Type 0} (f : X → Y) (zs us xs ys : List X) (x : X) (y : Y) → zs ≡ xs → None ≡ slice_get zs 0 → us ≡ ys → Some x ≡ slice_get us 0 → y ≡ f x → Some y ≡ option_map f (first_of (xs ++ ys))
first-behind f zs us [] ys x y same e also h g = first-front f us ys [] x y also h g ∙ ap (λ l. option_map f (first_of l)) (append-nil ys)
first-behind f zs us (w ∷ xs) ys x y same e also h g =
    let is : ◌≡◌ {A = Option _} None (Some w) = e ∙ ap (λ l. slice_get l 0) same in
    absurd (cc)
