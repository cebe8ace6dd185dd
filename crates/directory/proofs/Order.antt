-- Names in the order of their bytes, and the index of an unchanged directory.
use Rattle.std.proofs.Common.{◌≡◌, ◌≢◌, ◌+◌, ◌<◌, ◌≤◌, ℕ, zero, suc, List, [], ◌∷◌, length, slice_index, Option, None, Some, refl, sym, ap, subst, ◌∙◌, arith, inl, inr}
use Rattle.std.specs.Ordering.{nat_cmp, ordering_reverse}
use Rattle.std.specs.Cmp.Lexicographic.{slice_cmp}
use Rattle.std.specs.FinMap.{nat_cmp-IsAntisymmetric, slice_cmp-IsAntisymmetric}
use Rattle.std.specs.declared.cmp.Ordering.TheVariants.{Less, Equal, Greater}
use Rattle.std.proofs.lemmas.Bool.{cases_eq, cases_lt}
use Rattle.std.proofs.lemmas.Cmp.{nat_list_cmp_total, tied_itself}
use Rattle.std.proofs.lemmas.List.{get_or_past}
use Rattle.directory.specs.declared.entry.DirEntry.{DirEntry}
use Rattle.directory.specs.Block.{entry_at}
use Rattle.directory.specs.Directory.{AreDistinct, IsAbsent, first_empty}
use Rattle.tree_law.specs.Entries.{IsBefore}
use Rattle.directory.specs.Index.{IsFound, IsGap, IsHint, IsIndex, IsTaken, name_at, name_of}

-- names that tie are the same
pub same_name : (a b : List ℕ) → slice_cmp nat_cmp a b ≡ Equal → a ≡ b
same_name a b e = slice_cmp-IsAntisymmetric nat_cmp-IsAntisymmetric a b e

-- a name that comes after another has the other before it
pub turned : (a b : List ℕ) → slice_cmp nat_cmp a b ≡ Greater → IsBefore b a
turned a b e = record { less = nat_list_cmp_total.antisymm b a ∙ ap ordering_reverse e }

pub before-trans : {a b c : List ℕ} → IsBefore a b → IsBefore b c → IsBefore a c
before-trans {a} {b} {c} p q = record { less = nat_list_cmp_total.trans a b c p.less q.less }

-- no name comes before itself
pub before-apart : {a b : List ℕ} → IsBefore a b → a ≢ b
before-apart {a} {b} p same =
    let ties : slice_cmp nat_cmp a a ≡ Equal = tied_itself nat_list_cmp_total a in
    let less : slice_cmp nat_cmp a a ≡ Less = ap (slice_cmp nat_cmp a) same ∙ p.less in
    cc

-- the same of equal names
pub before-same : {a b : List ℕ} (c d : List ℕ) → c ≡ a → d ≡ b → IsBefore a b → IsBefore c d
before-same c d ca db p = subst (λ (x : List ℕ). IsBefore x d) (sym ca) (subst (IsBefore _) (sym db) p)

-- a taken place has a slot
pub taken_within : (slots : List (Option DirEntry)) (place : ℕ) → IsTaken slots place → place < length slots
taken_within slots place h = elim (cases_lt place (length slots)) [
  | inl within ↦ within
  | inr past ↦ absurd (h (get_or_past slots place None past))
]

-- names are told by their places in the index
pub sorted_apart : (slots : List (Option DirEntry)) (index : List ℕ) (i j : ℕ) → IsIndex slots index → i < j → j < length index
    → name_at slots (slice_index index i) ≢ name_at slots (slice_index index j)
sorted_apart slots index i j h less within = before-apart (h.sorted i j less within)

-- what is before the place is before all from it on, and the other way round
pub all_before : (slots : List (Option DirEntry)) (index name : List ℕ) (middle : ℕ) → IsIndex slots index → middle < length index
    → IsBefore (name_at slots (slice_index index middle)) name → (i : ℕ) → i < middle + 1 → IsBefore (name_at slots (slice_index index i)) name
all_before slots index name middle h within less i below = elim (cases_lt i middle) [
  | inl lower ↦ before-trans (h.sorted i middle lower within) less
  | inr other ↦ (let same : i ≡ middle = omega arith in subst (λ (k : ℕ). IsBefore (name_at slots (slice_index index k)) name) (sym same) less)
]

pub all_after : (slots : List (Option DirEntry)) (index name : List ℕ) (middle : ℕ) → IsIndex slots index → middle < length index
    → IsBefore name (name_at slots (slice_index index middle)) → (i : ℕ) → middle ≤ i → i < length index → IsBefore name (name_at slots (slice_index index i))
all_after slots index name middle h within more i from inside = elim (cases_lt middle i) [
  | inl higher ↦ before-trans more (h.sorted middle i higher inside)
  | inr other ↦ (let same : i ≡ middle = omega arith in subst (λ (k : ℕ). IsBefore name (name_at slots (slice_index index k))) (sym same) more)
]

-- an absent name isn't found
pub absent_not_found : (slots : List (Option DirEntry)) (index name : List ℕ) (at : ℕ) → IsIndex slots index → IsAbsent slots name → IsFound slots index name at → ⊥
absent_not_found slots index name at h absent found = case (entry_at slots (slice_index index at)) refl
  where
    case : (slot : Option DirEntry) → entry_at slots (slice_index index at) ≡ slot → ⊥
    case None e = h.taken at found.within e
    case (Some entry) e = absent (slice_index index at) entry e (sym (ap name_of e) ∙ found.named)

-- a name with a gap is absent
pub gap_absent : (slots : List (Option DirEntry)) (index name : List ℕ) (at : ℕ) → IsIndex slots index → IsGap slots index name at → IsAbsent slots name
gap_absent slots index name at h gap place entry there same =
    let listed = h.whole place (λ (none : entry_at slots place ≡ None). (let both : Some entry ≡ None = sym there ∙ none in cc)) in
    let named : name_at slots (slice_index index listed.at) ≡ name = ap (name_at slots) listed.is ∙ ap name_of there ∙ same in
    elim (cases_lt listed.at at) [
      | inl lower ↦ before-apart (gap.before listed.at lower) named
      | inr higher ↦ before-apart (gap.after listed.at higher listed.within) (sym named)
    ]

-- where no slot below is empty, the first empty one is no lower
pub first_from : (slots : List (Option DirEntry)) (place : ℕ) → IsHint slots place → place ≤ length slots → (place < length slots → entry_at slots place ≡ None) → place ≡ first_empty slots
unfolding first_empty
first_from [] place hint within empty = omega arith
first_from (None ∷ slots) zero hint within empty = refl
first_from (None ∷ slots) (suc place) hint within empty = absurd (hint 0 (omega arith) refl)
first_from (Some e ∷ slots) zero hint within empty = (let both : Some e ≡ None = empty (omega arith) in cc)
first_from (Some e ∷ slots) (suc place) hint within empty =
    ap suc (first_from slots place (λ p below. hint (suc p) (omega arith)) (omega arith) (λ below. empty (omega arith)))

-- a hint is within the slots
pub hint_within : (slots : List (Option DirEntry)) (hint : ℕ) → IsHint slots hint → hint ≤ length slots
hint_within slots zero h = omega arith
hint_within slots (suc hint) h = (let within = taken_within slots hint (h hint (omega arith)) in omega arith)

-- a name stands at one place
pub same_place : (slots : List (Option DirEntry)) (index : List ℕ) → IsIndex slots index → AreDistinct slots
same_place slots index h i j a b at_i at_j same =
    let first = h.whole i (λ (none : entry_at slots i ≡ None). (let both : Some a ≡ None = sym at_i ∙ none in cc)) in
    let second = h.whole j (λ (none : entry_at slots j ≡ None). (let both : Some b ≡ None = sym at_j ∙ none in cc)) in
    let names : name_at slots (slice_index index first.at) ≡ name_at slots (slice_index index second.at) =
    ap (name_at slots) first.is ∙ ap name_of at_i ∙ same ∙ ap name_of (sym at_j) ∙ ap (name_at slots) (sym second.is) in
    elim (cases_eq first.at second.at) [
      | inl one ↦ sym first.is ∙ ap (slice_index index) one ∙ second.is
      | inr two ↦ elim (cases_lt first.at second.at) [
        | inl less ↦ absurd (sorted_apart slots index first.at second.at h less second.within names)
        | inr more ↦ absurd (sorted_apart slots index second.at first.at h (omega arith) first.within (sym names))
      ]
    ]

-- a place is ranked where its name is found
pub ranked_at : (slots : List (Option DirEntry)) (index name : List ℕ) (place at : ℕ) → IsIndex slots index → IsTaken slots place → name ≡ name_at slots place
    → IsFound slots index name at → slice_index index at ≡ place
ranked_at slots index name place at h taken named found = case (entry_at slots (slice_index index at)) (entry_at slots place) refl refl
  where
    case : (x y : Option DirEntry) → entry_at slots (slice_index index at) ≡ x → entry_at slots place ≡ y → slice_index index at ≡ place
    case None y ex ey = absurd (h.taken at found.within ex)
    case (Some a) None ex ey = absurd (taken ey)
    case (Some a) (Some b) ex ey = same_place slots index h (slice_index index at) place a b ex ey (sym (ap name_of ex) ∙ found.named ∙ named ∙ ap name_of ey)

-- a taken place's name has no gap
pub taken_no_gap : (slots : List (Option DirEntry)) (index name : List ℕ) (place at : ℕ) → IsIndex slots index → IsTaken slots place → name ≡ name_at slots place → IsGap slots index name at → ⊥
taken_no_gap slots index name place at h taken named gap = case (entry_at slots place) refl
  where
    case : (x : Option DirEntry) → entry_at slots place ≡ x → ⊥
    case None e = taken e
    case (Some a) e = gap_absent slots index name at h gap place a e (sym (named ∙ ap name_of e))
