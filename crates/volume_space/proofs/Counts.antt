-- How many blocks are free where pointers free some and take others.
use Rattle.std.proofs.Common.{◌≡◌, ◌≤◌, ◌+◌, ℕ, zero, suc, Bool, true, false, List, [], ◌∷◌, length, Some, None, slice_get, slice_index, slice_set, count_by, cond, refl, sym, ◌∙◌, inl, inr, arith}
use Rattle.std.proofs.lemmas.List.Sums.{sum_by-cons}
use Rattle.std.proofs.lemmas.Option.{slice_get_within}
use Rattle.volume_edit.proofs.Marked.{NamesBlock, NamesNot, length-marked_all, marked_apart, marked_named, marked_stays, names_or_not}
use Rattle.volume_edit.specs.Edit.{marked_all}

-- the free blocks of a map
abbrev pub free_in : List Bool → ℕ
free_in free = count_by (λ (is_free : Bool). is_free) free

free_in-cons : (is_free : Bool) (free : List Bool) → free_in (is_free ∷ free) ≡ cond is_free 1 0 + free_in free
free_in-cons is_free free = sum_by-cons (λ (b : Bool). cond b 1 0) is_free free

-- where each free block stays free, no fewer are
no_fewer : (before after : List Bool) → ((block : ℕ) → slice_get before block ≡ Some true → slice_get after block ≡ Some true) → free_in before ≤ free_in after
no_fewer [] after stays = omega arith
no_fewer (true ∷ before) [] stays = (let both : None ≡ Some true = stays 0 refl in absurd (cc))
no_fewer (true ∷ before) (false ∷ after) stays = (let both : Some false ≡ Some true = stays 0 refl in absurd (cc))
no_fewer (true ∷ before) (true ∷ after) stays =
    let a = free_in-cons true before in
    let b = free_in-cons true after in
    let rest = no_fewer before after (λ block. stays (suc block)) in
    omega (arith, a, b, rest)
no_fewer (false ∷ before) [] stays =
    let a = free_in-cons false before in
    let rest = no_fewer before [] (λ block. stays (suc block)) in
    omega (arith, a, rest)
no_fewer (false ∷ before) (is_free ∷ after) stays =
    let a = free_in-cons false before in
    let b = free_in-cons is_free after in
    let rest = no_fewer before after (λ block. stays (suc block)) in
    omega (arith, a, b, rest)

-- one block that is taken is one free block less, at most
pub one_taken : (free : List Bool) (block : ℕ) → free_in free ≤ free_in (slice_set free block false) + 1
one_taken [] block = omega arith
one_taken (true ∷ free) zero =
    let a = free_in-cons true free in
    let b = free_in-cons false free in
    omega (arith, a, b)
one_taken (false ∷ free) zero = omega arith
one_taken (is_free ∷ free) (suc block) =
    let a = free_in-cons is_free free in
    let b = free_in-cons is_free (slice_set free block false) in
    let rest = one_taken free block in
    omega (arith, a, b, rest)

-- and for some pointers as many less as there are pointers
some_taken : (pointers : List ℕ) (free : List Bool) → free_in free ≤ free_in (marked_all false free pointers) + length pointers
unfolding marked_all
some_taken [] free = omega arith
some_taken (zero ∷ pointers) free = (let rest = some_taken pointers free in omega (arith, rest))
some_taken (suc block ∷ pointers) free =
    let one = one_taken free block in
    let rest = some_taken pointers (slice_set free block false) in
    omega (arith, one, rest)

-- each free block that a pointer names is one of those that are taken
abbrev pub TakesAmong : List Bool → List ℕ → List ℕ → Type 0
TakesAmong free pointers taken = (block place : ℕ) → slice_get free block ≡ Some true → slice_index pointers place ≡ block + 1 → NamesBlock taken block

-- a block that is free and not taken stays free, where the old pointers' blocks are freed and then the new ones' taken
stays_free : (free : List Bool) (old new taken : List ℕ) (block : ℕ) → TakesAmong free new taken → slice_get (marked_all false free taken) block ≡ Some true → slice_get (marked_all false (marked_all true free old) new) block ≡ Some true
stays_free free old new taken block among stood = elim (names_or_not taken block) [
  | inl n ↦ (let both : Some true ≡ Some false = sym stood ∙ marked_named false taken free block n.place n.names (let h = slice_get_within (marked_all false free taken) block true stood in let l = length-marked_all false taken free in omega (arith, h, l)) in absurd (cc))
  | inr none ↦ free_before (sym (marked_apart false taken free block none) ∙ stood) none
]
  where
    free_before : slice_get free block ≡ Some true → NamesNot taken block → slice_get (marked_all false (marked_all true free old) new) block ≡ Some true
    free_before is_free none = elim (names_or_not new block) [
      | inl n ↦ (let t = among block n.place is_free n.names in absurd (none t.place t.names))
      | inr apart ↦ marked_apart false new (marked_all true free old) block apart ∙ marked_stays true old free block (slice_get_within free block true is_free) is_free
    ]

-- so as many less are free as are taken, at most
pub pointers_take : (free : List Bool) (old new taken : List ℕ) → TakesAmong free new taken → free_in free ≤ free_in (marked_all false (marked_all true free old) new) + length taken
pointers_take free old new taken among =
    let some = some_taken taken free in
    let rest = no_fewer (marked_all false free taken) (marked_all false (marked_all true free old) new) (λ block. stays_free free old new taken block among) in
    omega (arith, some, rest)

-- pointers that name no free block take none
pub none_taken : (free : List Bool) (old new : List ℕ) → ((block place : ℕ) → slice_get free block ≡ Some true → slice_index new place ≡ block + 1 → ⊥) → free_in free ≤ free_in (marked_all false (marked_all true free old) new)
none_taken free old new apart =
    let most = pointers_take free old new [] (λ block place is_free names. absurd (apart block place is_free names)) in
    omega (arith, most)
