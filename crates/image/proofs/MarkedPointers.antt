-- Pointers are marked one by one.
use Rattle.std.proofs.Common.{◌≡◌, ◌≤◌, ◌<◌, ◌+◌, ◌∙◌, ℕ, Bool, List, [], ◌∷◌, length, drop, get_or, refl, sym, ap}
use Rattle.std.proofs.lemmas.List.{drop_more, drop_all}
use Rattle.volume_edit.specs.Edit.{marked, marked_all}

-- with all marked nothing is left
pub marked_none : (is_free : Bool) (free : List Bool) → marked_all is_free free [] ≡ free
unfolding marked_all
marked_none is_free free = refl

marked_first : (is_free : Bool) (free : List Bool) (pointer : ℕ) (pointers : List ℕ) → marked_all is_free free (pointer ∷ pointers) ≡ marked_all is_free (marked is_free free pointer) pointers
unfolding marked_all
marked_first is_free free pointer pointers = refl

-- one pointer more is marked
pub marked_on : (is_free : Bool) (free : List Bool) (pointers : List ℕ) (i pointer : ℕ) → i < length pointers → pointer ≡ get_or pointers i 0
    → marked_all is_free free (drop i pointers) ≡ marked_all is_free (marked is_free free pointer) (drop (i + 1) pointers)
marked_on is_free free pointers i pointer inside is =
    ap (marked_all is_free free) (drop_more pointers i 0 inside) ∙ marked_first is_free free (get_or pointers i 0) (drop (i + 1) pointers)
    ∙ ap (λ (n : ℕ). marked_all is_free (marked is_free free n) (drop (i + 1) pointers)) (sym is)

-- all pointers are marked
pub marked_end : (is_free : Bool) (free before : List Bool) (pointers : List ℕ) (i : ℕ) → length pointers ≤ i
    → marked_all is_free free (drop i pointers) ≡ marked_all is_free before pointers → free ≡ marked_all is_free before pointers
marked_end is_free free before pointers i past kept =
    sym (marked_none is_free free) ∙ ap (marked_all is_free free) (sym (drop_all i pointers past)) ∙ kept
