-- The map where an inode's blocks are freed and taken again.
use Rattle.std.proofs.Common.{◌≡◌, ◌≢◌, ◌<◌, ◌+◌, ℕ, zero, suc, Bool, true, false, List, [], ◌∷◌, length, slice_get, slice_index, Some, refl, sym, ap, ◌∙◌, inl, inr, arith, get_or}
use Rattle.std.specs.Prelude.{slice_set}
use Rattle.std.proofs.lemmas.Bool.{cases_eq}
use Rattle.std.proofs.lemmas.List.{ext_get_or, get_or-set_other, get_or-set_same}
use Rattle.std.proofs.lemmas.Option.{get_or_from_slice_get}
use Rattle.volume_edit.specs.Edit.{marked, marked_all}
use Rattle.volume_edit.proofs.Grammar.{length-marked, length-marked_all}

-- a pointer names a block, or none does
pub data Names (pointers : List ℕ) (block : ℕ) : Type 0 where
  named : (place : ℕ) → slice_index pointers place ≡ block + 1 → Names pointers block
  not_named : ((place : ℕ) → slice_index pointers place ≢ block + 1) → Names pointers block

none_named : (x : ℕ) (pointers : List ℕ) (block : ℕ) → x ≢ block + 1 → ((place : ℕ) → slice_index pointers place ≢ block + 1) → (place : ℕ) → slice_index (x ∷ pointers) place ≢ block + 1
none_named x pointers block apart others zero = apart
none_named x pointers block apart others (suc place) = others place

pub does_name : (pointers : List ℕ) (block : ℕ) → Names pointers block
does_name [] block = not_named (λ place same. omega arith)
does_name (x ∷ pointers) block = elim (cases_eq x (block + 1)) [
  | inl same ↦ named 0 same
  | inr apart ↦ elim (does_name pointers block) [
    | named place same ↦ named (suc place) same
    | not_named others ↦ not_named (none_named x pointers block apart others)
  ]
]

-- a block that no pointer names is as before
marked_other : (is_free : Bool) (free : List Bool) (pointer block : ℕ) → pointer ≢ block + 1 → get_or (marked is_free free pointer) block false ≡ get_or free block false
marked_other is_free free zero block apart = refl
marked_other is_free free (suc other) block apart = get_or-set_other free other block is_free false (λ same. apart (omega arith))

pub marked_all_other : (is_free : Bool) (free : List Bool) (pointers : List ℕ) (block : ℕ) → ((place : ℕ) → slice_index pointers place ≢ block + 1) → get_or (marked_all is_free free pointers) block false ≡ get_or free block false
unfolding marked_all
marked_all_other is_free free [] block apart = refl
marked_all_other is_free free (x ∷ pointers) block apart =
    marked_all_other is_free (marked is_free free x) pointers block (λ place. apart (suc place)) ∙ marked_other is_free free x block (apart 0)

-- a block that a pointer names is marked
marked_same : (is_free : Bool) (free : List Bool) (pointer block : ℕ) → pointer ≡ block + 1 → block < length free → get_or (marked is_free free pointer) block false ≡ is_free
marked_same is_free free zero block same within = absurd (omega arith)
marked_same is_free free (suc other) block same within =
    let here : other ≡ block = omega arith in
    ap (λ (n : ℕ). get_or (slice_set free n is_free) block false) here ∙ get_or-set_same free block is_free false within

pub marked_all_same : (is_free : Bool) (free : List Bool) (pointers : List ℕ) (place block : ℕ) → slice_index pointers place ≡ block + 1 → block < length free → get_or (marked_all is_free free pointers) block false ≡ is_free
unfolding marked_all
marked_all_same is_free free [] place block same within = absurd (omega arith)
marked_all_same is_free free (x ∷ pointers) zero block same within = elim (does_name pointers block) [
  | named other again ↦ marked_all_same is_free (marked is_free free x) pointers other block again (let l = length-marked is_free free x in omega arith)
  | not_named others ↦ marked_all_other is_free (marked is_free free x) pointers block others ∙ marked_same is_free free x block same within
]
marked_all_same is_free free (x ∷ pointers) (suc place) block same within =
    marked_all_same is_free (marked is_free free x) pointers place block same (let l = length-marked is_free free x in omega arith)

-- blocks in use that are freed and taken again are as before
pub marked_back : (free : List Bool) (pointers : List ℕ) → ((place block : ℕ) → slice_index pointers place ≡ block + 1 → slice_get free block ≡ Some false) → marked_all false (marked_all true free pointers) pointers ≡ free
marked_back free pointers used =
    let freed = marked_all true free pointers in
    let size = length-marked_all true free pointers in
    let all = length-marked_all false freed pointers in
    ext_get_or false (marked_all false freed pointers) free (all ∙ size) (λ block within. elim (does_name pointers block) [
      | named place same ↦ marked_all_same false freed pointers place block same (omega arith) ∙ sym (get_or_from_slice_get free block false false (used place block same))
      | not_named others ↦ marked_all_other false freed pointers block others ∙ marked_all_other true free pointers block others
    ])
