-- Putting items in turn.
use Rattle.std.proofs.Common.{◌≡◌, ◌+◌, ◌<◌, ◌≤◌, ◌∷◌, ◌++◌, [], ℕ, List, length, take, get_or, All, sym, ap, ◌∙◌, subst, append_assoc, append-nil}
use Rattle.std.specs.List.{flat_map}
use Rattle.std.proofs.lemmas.Grind.{flat_map-append}
use Rattle.std.proofs.lemmas.List.{take_more, take_all}

-- one item more is put
pub flat_more : {A : Type 0} (f : A → List ℕ) (xs : List A) (i : ℕ) (d item : A) (old now new : List ℕ) → i < length xs → now ≡ old ++ flat_map f (take i xs)
    → item ≡ get_or xs i d → new ≡ now ++ f item → new ≡ old ++ flat_map f (take (i + 1) xs)
flat_more f xs i d item old now new within so is put =
    put ∙ ap (λ (x : List ℕ). x ++ f item) so ∙ append_assoc old (flat_map f (take i xs)) (f item)
    ∙ ap (λ x. old ++ (flat_map f (take i xs) ++ f x)) is
    ∙ ap (λ (x : List ℕ). old ++ (flat_map f (take i xs) ++ x)) (sym (append-nil (f (get_or xs i d))))
    ∙ ap (λ (x : List ℕ). old ++ x) (sym (flat_map-append f (take i xs) (get_or xs i d ∷ [])) ∙ ap (flat_map f) (sym (take_more xs i d within)))

-- all items are put
pub flat_all : {A : Type 0} (f : A → List ℕ) (xs : List A) (i : ℕ) (old now : List ℕ) → length xs ≤ i → now ≡ old ++ flat_map f (take i xs) → now ≡ old ++ flat_map f xs
flat_all f xs i old now all so = so ∙ ap (λ xs. old ++ flat_map f xs) (take_all i xs all)

-- what holds of all items holds of one
pub one_of : {A : Type 0} (P : A → Type 0) (xs : List A) (i : ℕ) (d item : A) → All P xs → i < length xs → item ≡ get_or xs i d → P item
one_of P xs i d item all within is = subst P (sym is) (all i d within)
