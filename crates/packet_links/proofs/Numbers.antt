-- Which numbers are in a list to which one was put, and from which one was taken.
use Rattle.std.proofs.Common.{◌≡◌, ◌≢◌, ◌⊎◌, ◌<◌, ◌∷◌, ◌∙◌, [], inl, inr, ℕ, zero, suc, cond, List, Contains, length, slice_index_or, refl, sym, subst, arith}
use Rattle.std.specs.Ordering.{nat_cmp, match_ordering, is_eq}
use Rattle.std.specs.declared.cmp.Ordering.{Ordering}
use Rattle.std.specs.declared.cmp.Ordering.TheVariants.{Less, Equal, Greater}
use Rattle.std.specs.Cmp.{nat_cmp_is}
use Rattle.std.specs.List.{AllByRecursion}
use Rattle.std.specs.List.Sorted.{IsStrictlySortedBy}
use Rattle.std.proofs.lemmas.List.Elements.{All-contains, All-contains_itself}
use Rattle.std.proofs.lemmas.Map.Views.{All-insert_key, All-remove_key}
use Rattle.std.proofs.lemmas.Map.Lookups.{exact_unsigned}
use Rattle.packet_links.specs.Links.{with_number, without_number, IsRising}

-- no number is in a list of none
pub no_number : (m : ℕ) → Contains [] m → ⊥
no_number m c = let low = c.1 in omega (arith, low)

at_head : (x : ℕ) (xs : List ℕ) → Contains (x ∷ xs) x
at_head x xs = (0, omega arith, refl)

behind : (x : ℕ) (xs : List ℕ) (m : ℕ) → Contains xs m → Contains (x ∷ xs) m
behind x xs m c = let low = c.1 in (suc c.0, omega (arith, low), c.2)

-- a number of a list is its head or stands behind it
head_or_behind : (x : ℕ) (xs : List ℕ) (m : ℕ) → Contains (x ∷ xs) m → (x ≡ m) ⊎ Contains xs m
head_or_behind x xs m c = by c.0 c.1 c.2
  where
    by : (k : ℕ) → k < length (x ∷ xs) → slice_index_or (x ∷ xs) k m ≡ m → (x ≡ m) ⊎ Contains xs m
    by zero low is = inl is
    by (suc k) low is = inr (k, omega (arith, low), is)

-- behind a head stands what stands in the rest, or is the head
behind_or_head : (x : ℕ) (xs ys : List ℕ) (m : ℕ) → (Contains xs m → Contains ys m) → (x ≡ m) ⊎ Contains xs m → Contains (x ∷ ys) m
behind_or_head x xs ys m rest (inl same) = subst (λ (y : ℕ). Contains (x ∷ ys) y) same (at_head x ys)
behind_or_head x xs ys m rest (inr there) = behind x ys m (rest there)

-- the number that was put is there
pub put-there : (number : ℕ) (xs : List ℕ) → Contains (with_number number xs) number
put-there number [] = at_head number []
put-there number (x ∷ xs) = by (put-there number xs) (nat_cmp number x) refl
  where
    by : Contains (with_number number xs) number → (o : Ordering) → nat_cmp number x ≡ o → Contains (match_ordering o (number ∷ x ∷ xs) (x ∷ xs) (x ∷ with_number number xs)) number
    by there Less e = at_head number (x ∷ xs)
    by there Equal e = subst (λ (y : ℕ). Contains (y ∷ xs) number) (exact_unsigned number x e) (at_head number xs)
    by there Greater e = behind x (with_number number xs) number there

-- the others are still there
pub put-keeps : (number : ℕ) (xs : List ℕ) (m : ℕ) → Contains xs m → Contains (with_number number xs) m
put-keeps number [] m c = absurd (no_number m c)
put-keeps number (x ∷ xs) m c = by (put-keeps number xs m) (nat_cmp number x)
  where
    by : (Contains xs m → Contains (with_number number xs) m) → (o : Ordering) → Contains (match_ordering o (number ∷ x ∷ xs) (x ∷ xs) (x ∷ with_number number xs)) m
    by rest Less = behind number (x ∷ xs) m c
    by rest Equal = c
    by rest Greater = behind_or_head x xs (with_number number xs) m rest (head_or_behind x xs m c)

-- nothing else was put
pub put-only : (number : ℕ) (xs : List ℕ) (m : ℕ) → Contains (with_number number xs) m → Contains xs m ⊎ (m ≡ number)
put-only number xs m c = All-contains (λ (y : ℕ). Contains xs y ⊎ (y ≡ number)) (with_number number xs) m
    (All-insert_key nat_cmp number (λ (y : ℕ). Contains xs y ⊎ (y ≡ number)) xs (λ k d low. inl (All-contains_itself xs k d low)) (inr refl)) c

-- what is left was there
pub taken-only : (number : ℕ) (xs : List ℕ) (m : ℕ) → Contains (without_number number xs) m → Contains xs m
taken-only number xs m c = All-contains (Contains xs) (without_number number xs) m (All-remove_key _ (Contains xs) xs (All-contains_itself xs)) c

-- another number is still there
pub taken-keeps : (number : ℕ) (xs : List ℕ) (m : ℕ) → m ≢ number → Contains xs m → Contains (without_number number xs) m
taken-keeps number [] m other c = absurd (no_number m c)
taken-keeps number (x ∷ xs) m other c = by (taken-keeps number xs m other) (nat_cmp number x) refl (head_or_behind x xs m c)
  where
    by : (Contains xs m → Contains (without_number number xs) m) → (o : Ordering) → nat_cmp number x ≡ o → (x ≡ m) ⊎ Contains xs m → Contains (cond (is_eq o) xs (x ∷ without_number number xs)) m
    by rest Equal e (inl same) = absurd (other (sym same ∙ sym (exact_unsigned number x e)))
    by rest Equal e (inr there) = there
    by rest Less e there = behind_or_head x xs (without_number number xs) m rest there
    by rest Greater e there = behind_or_head x xs (without_number number xs) m rest there

-- a number below all of a list is below each that is in it
each_above : (x : ℕ) (xs : List ℕ) (m : ℕ) → AllByRecursion (λ (y : ℕ). nat_cmp x y ≡ Less) xs → Contains xs m → nat_cmp x m ≡ Less
each_above x [] m all c = absurd (no_number m c)
each_above x (y ∷ ys) m all c = by (each_above x ys m all.1) (head_or_behind y ys m c)
  where
    by : (Contains ys m → nat_cmp x m ≡ Less) → (y ≡ m) ⊎ Contains ys m → nat_cmp x m ≡ Less
    by rest (inl same) = subst (λ (z : ℕ). nat_cmp x z ≡ Less) same all.0
    by rest (inr there) = rest there

itself : (m : ℕ) → nat_cmp m m ≡ Equal
itself m = sym (nat_cmp_is m m Equal refl)

not_below_itself : (m : ℕ) → nat_cmp m m ≡ Less → ⊥
not_below_itself m e = (let both : Equal ≡ Less = sym (itself m) ∙ e in cc)

-- where the numbers rise, the number that was taken is there no more
pub taken-gone : (number : ℕ) (xs : List ℕ) → IsRising xs → Contains (without_number number xs) number → ⊥
unfolding IsStrictlySortedBy
taken-gone number [] rising c = no_number number c
taken-gone number (x ∷ xs) rising c = by (taken-gone number xs rising.1) (nat_cmp number x) refl c
  where
    later : (Contains (without_number number xs) number → ⊥) → nat_cmp number x ≢ Equal → (x ≡ number) ⊎ Contains (without_number number xs) number → ⊥
    later rest other (inl same) = other (subst (λ (y : ℕ). nat_cmp number y ≡ Equal) (sym same) (itself number))
    later rest other (inr there) = rest there

    by : (Contains (without_number number xs) number → ⊥) → (o : Ordering) → nat_cmp number x ≡ o → Contains (cond (is_eq o) xs (x ∷ without_number number xs)) number → ⊥
    by rest Equal e there = not_below_itself x (each_above x xs x rising.0 (subst (Contains xs) (exact_unsigned number x e) there))
    by rest Less e there = later rest (λ same. (let both : Less ≡ Equal = sym e ∙ same in cc)) (head_or_behind x (without_number number xs) number there)
    by rest Greater e there = later rest (λ same. (let both : Greater ≡ Equal = sym e ∙ same in cc)) (head_or_behind x (without_number number xs) number there)
