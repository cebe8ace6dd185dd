-- Where blocks are free there is a least free one.
use Rattle.std.proofs.Common.{◌≡◌, ◌<◌, ◌+◌, ℕ, Bool, true, false, List, [], ◌∷◌, length, count_by, cond, Option, Some, get_or, refl, arith}
use Rattle.std.specs.List.{position, position_or_len}
use Rattle.std.proofs.lemmas.List.Quantifiers.{position-Some}
use Rattle.std.proofs.lemmas.Bool.Decides.{nat_tests}
use Rattle.std.proofs.lemmas.List.Recursion.{is_position_or_len}
use Rattle.std.proofs.lemmas.List.Sums.{sum_by-cons}

first : List Bool → ℕ
first [] = 0
first (true ∷ free) = 0
first (false ∷ free) = 1 + first free

first_cons : (x : Bool) (free : List Bool) → first (x ∷ free) ≡ cond x 0 (1 + first free)
unfolding first
first_cons true free = refl
first_cons false free = refl

first_none : first [] ≡ 0
unfolding first
first_none = refl

first_is : (free : List Bool) → first free ≡ position_or_len (λ (b : Bool). b) free
first_is free = is_position_or_len first (λ (b : Bool). b) first_none first_cons free

counted : (free : List Bool) → 0 < count_by (λ (b : Bool). b) free → first free < length free
unfolding first
counted [] some = absurd (omega arith)
counted (true ∷ free) some = omega arith
counted (false ∷ free) some =
    let sum : count_by (λ (b : Bool). b) (false ∷ free) ≡ 0 + count_by (λ (b : Bool). b) free = sum_by-cons (λ (b : Bool). cond b 1 0) false free in
    let rest = counted free (omega arith) in
    omega arith

-- the least free block
pub record Least (free : List Bool) (o : Option ℕ) : Type 0 where
  pub block : ℕ
  pub is : o ≡ Some block
  pub within : block < length free
  pub free_there : get_or free block false ≡ true

pub least_free : (free : List Bool) → 0 < count_by (λ (b : Bool). b) free → Least free (position (λ (b : Bool). b) free)
least_free free some =
    let same = first_is free in
    let below = counted free some in
    let found : position (λ (b : Bool). b) free ≡ Some (position_or_len (λ (b : Bool). b) free) = grind (arith, nat_tests) in
    let at = position-Some (λ (b : Bool). b) free (position_or_len (λ (b : Bool). b) free) false found in
    record { block = position_or_len (λ (b : Bool). b) free; is = found; within = at.0; free_there = at.1 }
