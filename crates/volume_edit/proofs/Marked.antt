-- What is free after marking the blocks that pointers name.
use Rattle.std.proofs.Common.{◌≡◌, ◌≢◌, ◌⊎◌, ◌<◌, ◌+◌, ℕ, zero, suc, Bool, List, [], ◌∷◌, length, Some, slice_get, slice_index, refl, ap, ◌∙◌, subst, inl, inr, arith}
use Rattle.std.specs.List.{slice_set}
use Rattle.std.proofs.Math.ListN.{length-set}
use Rattle.std.proofs.lemmas.Bool.{cases_eq}
use Rattle.volume_edit.specs.Edit.{marked, marked_all}

-- a place that is set, and another one
pub get_set_same : {A : Type 0} (xs : List A) (i : ℕ) (a : A) → i < length xs → slice_get (slice_set xs i a) i ≡ Some a
get_set_same [] i a h = absurd (omega arith)
get_set_same (x ∷ xs) zero a h = refl
get_set_same (x ∷ xs) (suc i) a h = get_set_same xs i a (omega arith)

pub get_set_other : {A : Type 0} (xs : List A) (i j : ℕ) (a : A) → j ≢ i → slice_get (slice_set xs i a) j ≡ slice_get xs j
get_set_other [] i j a apart = refl
get_set_other (x ∷ xs) zero zero a apart = absurd (apart refl)
get_set_other (x ∷ xs) zero (suc j) a apart = refl
get_set_other (x ∷ xs) (suc i) zero a apart = refl
get_set_other (x ∷ xs) (suc i) (suc j) a apart = get_set_other xs i j a (λ e. apart (ap suc e))

-- some pointer names a block
pub record NamesBlock (pointers : List ℕ) (block : ℕ) : Type 0 where
  pub place : ℕ
  pub names : slice_index pointers place ≡ block + 1

-- no pointer names a block
abbrev pub NamesNot : List ℕ → ℕ → Type 0
NamesNot pointers block = (place : ℕ) → slice_index pointers place ≢ block + 1

names_not_more : (p : ℕ) (ps : List ℕ) (block : ℕ) → p ≢ block + 1 → NamesNot ps block → NamesNot (p ∷ ps) block
names_not_more p ps block apart none zero e = apart e
names_not_more p ps block apart none (suc place) e = none place e

pub names_or_not : (pointers : List ℕ) (block : ℕ) → NamesBlock pointers block ⊎ NamesNot pointers block
names_or_not [] block = inr (λ place e. omega arith)
names_or_not (p ∷ ps) block = elim (cases_eq p (block + 1)) [
  | inl here ↦ inl (record { place = 0; names = here })
  | inr apart ↦ elim (names_or_not ps block) [
    | inl n ↦ inl (record { place = suc n.place; names = n.names })
    | inr none ↦ inr (names_not_more p ps block apart none)
  ]
]

length-marked : (is_free : Bool) (free : List Bool) (p : ℕ) → length (marked is_free free p) ≡ length free
length-marked is_free free zero = refl
length-marked is_free free (suc block) = length-set free block is_free

pub length-marked_all : (is_free : Bool) (pointers : List ℕ) (free : List Bool) → length (marked_all is_free free pointers) ≡ length free
unfolding marked_all
length-marked_all is_free [] free = refl
length-marked_all is_free (p ∷ ps) free = length-marked_all is_free ps (marked is_free free p) ∙ length-marked is_free free p

-- a block that none of them names is as it was
pub marked_apart : (is_free : Bool) (pointers : List ℕ) (free : List Bool) (block : ℕ) → NamesNot pointers block → slice_get (marked_all is_free free pointers) block ≡ slice_get free block
unfolding marked_all
marked_apart is_free [] free block none = refl
marked_apart is_free (zero ∷ ps) free block none = marked_apart is_free ps free block (λ place. none (suc place))
marked_apart is_free (suc other ∷ ps) free block none =
    marked_apart is_free ps (slice_set free other is_free) block (λ place. none (suc place))
    ∙ get_set_other free other block is_free (λ e. none 0 (omega arith))

-- a block that one of them names is marked
pub marked_named : (is_free : Bool) (pointers : List ℕ) (free : List Bool) (block place : ℕ) → slice_index pointers place ≡ block + 1 → block < length free → slice_get (marked_all is_free free pointers) block ≡ Some is_free
unfolding marked_all
marked_named is_free [] free block place e below = absurd (omega arith)
marked_named is_free (p ∷ ps) free block (suc place) e below = marked_named is_free ps (marked is_free free p) block place e (let l = length-marked is_free free p in omega arith)
marked_named is_free (zero ∷ ps) free block zero e below = absurd (omega arith)
marked_named is_free (suc other ∷ ps) free block zero e below =
    let same : block ≡ other = omega arith in
    elim (names_or_not ps block) [
      | inl n ↦ marked_named is_free ps (slice_set free other is_free) block n.place n.names (let l = length-set free other is_free in omega arith)
      | inr none ↦ marked_apart is_free ps (slice_set free other is_free) block none
          ∙ subst (λ (k : ℕ). slice_get (slice_set free k is_free) block ≡ Some is_free) same (get_set_same free block is_free below)
    ]

-- a block that is marked already stays so
pub marked_stays : (is_free : Bool) (pointers : List ℕ) (free : List Bool) (block : ℕ) → block < length free → slice_get free block ≡ Some is_free → slice_get (marked_all is_free free pointers) block ≡ Some is_free
marked_stays is_free pointers free block below e = elim (names_or_not pointers block) [
  | inl n ↦ marked_named is_free pointers free block n.place n.names below
  | inr none ↦ marked_apart is_free pointers free block none ∙ e
]
