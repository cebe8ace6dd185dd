-- What a change of the slots does to their index.
use Rattle.std.proofs.Common.{◌≡◌, ◌≢◌, ◌+◌, ◌-◌, ◌<◌, ◌≤◌, ◌++◌, ℕ, zero, suc, List, [], ◌∷◌, length, slice_index, Option, None, Some, refl, sym, ap, ◌∙◌, arith, inl, inr, ◌⊎◌}
use Rattle.std.specs.List.{insert, remove, slice_set}
use Rattle.std.proofs.lemmas.Bool.{cases_eq, cases_lt}
use Rattle.std.proofs.lemmas.List.{get_or-set_same, get_or-set_other}
use Rattle.std.proofs.lemmas.List.Edits.{length-insert, get_or-insert_below, get_or-insert_at, get_or-insert_above, length-remove, get_or-remove_below, get_or-remove_above}
use Rattle.directory.specs.declared.entry.DirEntry.{DirEntry}
use Rattle.directory.specs.Block.{entry_at}
use Rattle.directory.specs.Directory.{entry_count}
use Rattle.tree_law.specs.Entries.{IsBefore}
use Rattle.directory.specs.Index.{IsGap, IsHint, IsIndex, IsTaken, Lists, name_at, name_of}
use Rattle.directory.proofs.Order.{before-same, sorted_apart, taken_within}

-- slots that hold the same have the same index
pub same_index : (a b : List (Option DirEntry)) (index : List ℕ) → ((place : ℕ) → entry_at b place ≡ entry_at a place) → entry_count b ≡ entry_count a
    → IsIndex a index → IsIndex b index
same_index a b index same counted h = record {
  taken = λ at within none. h.taken at within (sym (same (slice_index index at)) ∙ none);
  sorted = λ i j less within. before-same _ _ (ap name_of (same (slice_index index i))) (ap name_of (same (slice_index index j))) (h.sorted i j less within);
  whole = λ place taken. h.whole place (λ none. taken (same place ∙ none));
  count = h.count ∙ sym counted;
}

pub same_hint : (a b : List (Option DirEntry)) (hint : ℕ) → ((place : ℕ) → entry_at b place ≡ entry_at a place) → IsHint a hint → IsHint b hint
same_hint a b hint same h = λ place below none. h place below (sym (same place) ∙ none)

-- an empty slot more changes no entry
pub entry_at-push : (slots : List (Option DirEntry)) (place : ℕ) → entry_at (slots ++ None ∷ []) place ≡ entry_at slots place
entry_at-push [] zero = refl
entry_at-push [] (suc place) = refl
entry_at-push (x ∷ slots) zero = refl
entry_at-push (x ∷ slots) (suc place) = entry_at-push slots place

pub entry_count-push : (slots : List (Option DirEntry)) → entry_count (slots ++ None ∷ []) ≡ entry_count slots
unfolding entry_count
entry_count-push [] = refl
entry_count-push (None ∷ slots) = entry_count-push slots
entry_count-push (Some e ∷ slots) = ap suc (entry_count-push slots)

-- an entry is counted
pub entry_count-fill : (slots : List (Option DirEntry)) (place : ℕ) (e : DirEntry) → place < length slots → entry_at slots place ≡ None
    → entry_count (slice_set slots place (Some e)) ≡ entry_count slots + 1
unfolding entry_count
entry_count-fill [] place e within none = absurd (omega arith)
entry_count-fill (None ∷ slots) zero e within none = omega arith
entry_count-fill (Some x ∷ slots) zero e within none = (let both : Some x ≡ None = none in cc)
entry_count-fill (None ∷ slots) (suc place) e within none = entry_count-fill slots place e (omega arith) none
entry_count-fill (Some x ∷ slots) (suc place) e within none = (let more = entry_count-fill slots place e (omega arith) none in omega arith)

pub entry_count-empty : (slots : List (Option DirEntry)) (place : ℕ) → IsTaken slots place → entry_count (slice_set slots place None) + 1 ≡ entry_count slots
unfolding entry_count
entry_count-empty [] place taken = absurd (taken refl)
entry_count-empty (None ∷ slots) zero taken = absurd (taken refl)
entry_count-empty (Some x ∷ slots) zero taken = omega arith
entry_count-empty (None ∷ slots) (suc place) taken = entry_count-empty slots place taken
entry_count-empty (Some x ∷ slots) (suc place) taken = (let less = entry_count-empty slots place taken in omega arith)

pub entry_count-change : (slots : List (Option DirEntry)) (place : ℕ) (e : DirEntry) → IsTaken slots place → entry_count (slice_set slots place (Some e)) ≡ entry_count slots
unfolding entry_count
entry_count-change [] place e taken = absurd (taken refl)
entry_count-change (None ∷ slots) zero e taken = absurd (taken refl)
entry_count-change (Some x ∷ slots) zero e taken = refl
entry_count-change (None ∷ slots) (suc place) e taken = entry_count-change slots place e taken
entry_count-change (Some x ∷ slots) (suc place) e taken = ap suc (entry_count-change slots place e taken)

-- there are no more entries than slots, and fewer where one is empty
pub entry_count-most : (slots : List (Option DirEntry)) → entry_count slots ≤ length slots
unfolding entry_count
entry_count-most [] = omega arith
entry_count-most (None ∷ slots) = (let rest = entry_count-most slots in omega arith)
entry_count-most (Some x ∷ slots) = (let rest = entry_count-most slots in omega arith)

pub entry_count-fewer : (slots : List (Option DirEntry)) (place : ℕ) → place < length slots → entry_at slots place ≡ None → entry_count slots < length slots
unfolding entry_count
entry_count-fewer [] place within none = absurd (omega arith)
entry_count-fewer (None ∷ slots) place within none = (let rest = entry_count-most slots in omega arith)
entry_count-fewer (Some x ∷ slots) zero within none = (let both : Some x ≡ None = none in cc)
entry_count-fewer (Some x ∷ slots) (suc place) within none = (let rest = entry_count-fewer slots place (omega arith) none in omega arith)

-- what an index lists it lists with one place more
lists_more : (index : List ℕ) (at new place : ℕ) → at ≤ length index → Lists index place → Lists (insert index at new) place
lists_more index at new place within l =
    let size = length-insert index at new within in
    let inside = l.within in
    elim (cases_lt l.at at) [
      | inl below ↦ record { at = l.at; within = omega arith; is = get_or-insert_below index at new 0 l.at below within ∙ l.is }
      | inr above ↦ record { at = l.at + 1; within = omega arith; is = get_or-insert_above index at new 0 l.at above within ∙ l.is }
    ]

-- one entry more, at an empty slot, in the gap of its name
module _ (slots : List (Option DirEntry)) (index : List ℕ) (place at : ℕ) (e : DirEntry)
    (h : IsIndex slots index) (within : place < length slots) (none : entry_at slots place ≡ None) (gap : IsGap slots index e.name at) where
  new_slots : List (Option DirEntry)
  new_slots = slice_set slots place (Some e)

  new_index : List ℕ
  new_index = insert index at place

  here : entry_at new_slots place ≡ Some e
  unfolding new_slots
  here = get_or-set_same slots place (Some e) None within

  there : (other : ℕ) → other ≢ place → entry_at new_slots other ≡ entry_at slots other
  unfolding new_slots
  there other apart = get_or-set_other slots place other (Some e) None apart

  size : length new_index ≡ length index + 1
  unfolding new_index
  size = length-insert index at place gap.within

  -- a place that was taken holds the same
  kept : (i : ℕ) → i < length index → entry_at new_slots (slice_index index i) ≡ entry_at slots (slice_index index i)
  kept i inside = there (slice_index index i) (λ same. h.taken i inside (ap (entry_at slots) same ∙ none))

  below : (i : ℕ) → i < at → entry_at new_slots (slice_index new_index i) ≡ entry_at slots (slice_index index i)
  unfolding new_index
  below i less = (let inside = gap.within in ap (entry_at new_slots) (get_or-insert_below index at place 0 i less gap.within) ∙ kept i (omega arith))

  at_gap : (i : ℕ) → i ≡ at → entry_at new_slots (slice_index new_index i) ≡ Some e
  unfolding new_index
  at_gap i same = ap (λ (k : ℕ). entry_at new_slots (slice_index new_index k)) same ∙ ap (entry_at new_slots) (get_or-insert_at index at place 0 gap.within) ∙ here

  above : (i : ℕ) → at ≤ i → i < length index → entry_at new_slots (slice_index new_index (i + 1)) ≡ entry_at slots (slice_index index i)
  unfolding new_index
  above i more inside = ap (entry_at new_slots) (get_or-insert_above index at place 0 i more gap.within) ∙ kept i inside

  above_of : (i : ℕ) → at < i → i < length new_index → entry_at new_slots (slice_index new_index i) ≡ entry_at slots (slice_index index (i - 1))
  above_of i more inside =
      let one = size in
      let same : i ≡ (i - 1) + 1 = omega arith in
      ap (λ (k : ℕ). entry_at new_slots (slice_index new_index k)) same ∙ above (i - 1) (omega arith) (omega arith)

  data Side (i : ℕ) : Type 0 where
    low : i < at → Side i
    middle : i ≡ at → Side i
    high : at < i → Side i

  side : (i : ℕ) → Side i
  side i = elim (cases_lt i at) [
    | inl less ↦ low less
    | inr more ↦ elim (cases_eq i at) [ inl same ↦ middle same | inr apart ↦ high (omega arith) ]
  ]

  sorted_by : (i j : ℕ) → i < j → j < length new_index → Side i → Side j → IsBefore (name_at new_slots (slice_index new_index i)) (name_at new_slots (slice_index new_index j))
  sorted_by i j less inside (low a) (low b) = before-same _ _ (ap name_of (below i a)) (ap name_of (below j b)) (h.sorted i j less (let g = gap.within in omega arith))
  sorted_by i j less inside (low a) (middle b) = before-same _ _ (ap name_of (below i a)) (ap name_of (at_gap j b)) (gap.before i a)
  sorted_by i j less inside (low a) (high b) = before-same _ _ (ap name_of (below i a)) (ap name_of (above_of j b inside)) (h.sorted i (j - 1) (omega arith) (let s = size in omega arith))
  sorted_by i j less inside (middle a) (low b) = absurd (omega arith)
  sorted_by i j less inside (middle a) (middle b) = absurd (omega arith)
  sorted_by i j less inside (middle a) (high b) = before-same _ _ (ap name_of (at_gap i a)) (ap name_of (above_of j b inside)) (gap.after (j - 1) (omega arith) (let s = size in omega arith))
  sorted_by i j less inside (high a) (low b) = absurd (omega arith)
  sorted_by i j less inside (high a) (middle b) = absurd (omega arith)
  sorted_by i j less inside (high a) (high b) = before-same _ _ (ap name_of (above_of i a (omega arith))) (ap name_of (above_of j b inside)) (h.sorted (i - 1) (j - 1) (omega arith) (let s = size in omega arith))

  taken_by : (i : ℕ) → i < length new_index → Side i → IsTaken new_slots (slice_index new_index i)
  taken_by i inside (low a) none_now = h.taken i (let g = gap.within in omega arith) (sym (below i a) ∙ none_now)
  taken_by i inside (middle a) none_now = (let both : Some e ≡ None = sym (at_gap i a) ∙ none_now in cc)
  taken_by i inside (high a) none_now = h.taken (i - 1) (let s = size in omega arith) (sym (above_of i a inside) ∙ none_now)

  pub index_fill : IsIndex (slice_set slots place (Some e)) (insert index at place)
  unfolding new_slots new_index
  index_fill = record {
    taken = λ i inside. taken_by i inside (side i);
    sorted = λ i j less inside. sorted_by i j less inside (side i) (side j);
    whole = λ other taken. elim (cases_eq other place) [
      | inl same ↦ record { at = at; within = (let s = size in let g = gap.within in omega arith); is = get_or-insert_at index at place 0 gap.within ∙ sym same }
      | inr apart ↦ lists_more index at place other gap.within (h.whole other (λ old. taken (there other apart ∙ old)))
    ];
    count = size ∙ ap (λ (n : ℕ). n + 1) h.count ∙ sym (entry_count-fill slots place e within none);
  }

-- what an index lists elsewhere it lists with one place less
lists_less : (index : List ℕ) (at place : ℕ) → at < length index → (l : Lists index place) → l.at ≢ at → Lists (remove index at) place
lists_less index at place within l apart =
    let size = length-remove index at within in
    let inside = l.within in
    elim (cases_lt l.at at) [
      | inl below ↦ record { at = l.at; within = omega arith; is = get_or-remove_below index at 0 l.at below within ∙ l.is }
      | inr above ↦ (
          let back : (l.at - 1) + 1 ≡ l.at = omega arith in
          record { at = l.at - 1; within = omega arith; is = get_or-remove_above index at 0 (l.at - 1) (omega arith) within ∙ ap (slice_index index) back ∙ l.is })
    ]

-- one entry less
module _ (slots : List (Option DirEntry)) (index : List ℕ) (at : ℕ) (h : IsIndex slots index) (within : at < length index) where
  gone : ℕ
  gone = slice_index index at

  left_slots : List (Option DirEntry)
  left_slots = slice_set slots (slice_index index at) None

  left_index : List ℕ
  left_index = remove index at

  left_size : length left_index + 1 ≡ length index
  unfolding left_index
  left_size = length-remove index at within

  left_there : (other : ℕ) → other ≢ slice_index index at → entry_at left_slots other ≡ entry_at slots other
  unfolding left_slots
  left_there other apart = get_or-set_other slots (slice_index index at) other None None apart

  -- the other places of the index are other places
  others : (i : ℕ) → i < length index → i ≢ at → slice_index index i ≢ slice_index index at
  others i inside apart same = elim (cases_lt i at) [
    | inl less ↦ sorted_apart slots index i at h less within (ap (name_at slots) same)
    | inr more ↦ sorted_apart slots index at i h (omega arith) inside (ap (name_at slots) (sym same))
  ]

  left_kept : (i : ℕ) → i < length index → i ≢ at → entry_at left_slots (slice_index index i) ≡ entry_at slots (slice_index index i)
  left_kept i inside apart = left_there (slice_index index i) (others i inside apart)

  left_below : (i : ℕ) → i < at → entry_at left_slots (slice_index left_index i) ≡ entry_at slots (slice_index index i)
  unfolding left_index
  left_below i less = ap (entry_at left_slots) (get_or-remove_below index at 0 i less within) ∙ left_kept i (omega arith) (λ same. omega arith)

  left_above : (i : ℕ) → at ≤ i → i < length left_index → entry_at left_slots (slice_index left_index i) ≡ entry_at slots (slice_index index (i + 1))
  unfolding left_index
  left_above i more inside = (let s = left_size in ap (entry_at left_slots) (get_or-remove_above index at 0 i more within) ∙ left_kept (i + 1) (omega arith) (λ same. omega arith))

  left_sorted : (i j : ℕ) → i < j → j < length left_index → (i < at) ⊎ (at ≤ i) → (j < at) ⊎ (at ≤ j)
      → IsBefore (name_at left_slots (slice_index left_index i)) (name_at left_slots (slice_index left_index j))
  left_sorted i j less inside (inl a) (inl b) = before-same _ _ (ap name_of (left_below i a)) (ap name_of (left_below j b)) (h.sorted i j less (omega arith))
  left_sorted i j less inside (inl a) (inr b) = before-same _ _ (ap name_of (left_below i a)) (ap name_of (left_above j b inside)) (h.sorted i (j + 1) (omega arith) (let s = left_size in omega arith))
  left_sorted i j less inside (inr a) (inl b) = absurd (omega arith)
  left_sorted i j less inside (inr a) (inr b) = before-same _ _ (ap name_of (left_above i a (omega arith))) (ap name_of (left_above j b inside)) (h.sorted (i + 1) (j + 1) (omega arith) (let s = left_size in omega arith))

  left_taken : (i : ℕ) → i < length left_index → (i < at) ⊎ (at ≤ i) → IsTaken left_slots (slice_index left_index i)
  left_taken i inside (inl a) none = h.taken i (omega arith) (sym (left_below i a) ∙ none)
  left_taken i inside (inr a) none = h.taken (i + 1) (let s = left_size in omega arith) (sym (left_above i a inside) ∙ none)

  left_whole : (other : ℕ) → IsTaken left_slots other → Lists left_index other
  unfolding left_index left_slots
  left_whole other taken = elim (cases_eq other (slice_index index at)) [
    | inl same ↦ (
        let inside : slice_index index at < length slots = taken_within slots (slice_index index at) (h.taken at within) in
        absurd (taken (ap (entry_at left_slots) same ∙ get_or-set_same slots (slice_index index at) None None inside)))
    | inr apart ↦ (
        let old : IsTaken slots other = λ (none : entry_at slots other ≡ None). taken (left_there other apart ∙ none) in
        let listed = h.whole other old in
        lists_less index at other within listed (λ same. apart (sym listed.is ∙ ap (slice_index index) same)))
  ]

  pub index_empty : IsIndex (slice_set slots (slice_index index at) None) (remove index at)
  unfolding left_slots left_index
  index_empty = record {
    taken = λ i inside. left_taken i inside (cases_lt i at);
    sorted = λ i j less inside. left_sorted i j less inside (cases_lt i at) (cases_lt j at);
    whole = left_whole;
    count = (let s = left_size in let n = h.count in let c = entry_count-empty slots (slice_index index at) (h.taken at within) in omega arith);
  }

-- an entry is another of the same name
pub index_change : (slots : List (Option DirEntry)) (index : List ℕ) (place : ℕ) (e : DirEntry) → IsIndex slots index → IsTaken slots place → e.name ≡ name_at slots place
    → IsIndex (slice_set slots place (Some e)) index
index_change slots index place e h taken named = record {
  taken = λ i inside none. h.taken i inside (is_none (slice_index index i) none);
  sorted = λ i j less inside. before-same _ _ (names (slice_index index i)) (names (slice_index index j)) (h.sorted i j less inside);
  whole = λ other now. h.whole other (λ none. now (still_none other none));
  count = h.count ∙ sym (entry_count-change slots place e taken);
}
  where
    here_now : entry_at (slice_set slots place (Some e)) place ≡ Some e
    here_now = get_or-set_same slots place (Some e) None (taken_within slots place taken)

    there_now : (other : ℕ) → other ≢ place → entry_at (slice_set slots place (Some e)) other ≡ entry_at slots other
    there_now other apart = get_or-set_other slots place other (Some e) None apart

    is_none : (other : ℕ) → entry_at (slice_set slots place (Some e)) other ≡ None → entry_at slots other ≡ None
    is_none other none = elim (cases_eq other place) [
      | inl same ↦ (let both : Some e ≡ None = sym here_now ∙ ap (entry_at (slice_set slots place (Some e))) (sym same) ∙ none in cc)
      | inr apart ↦ sym (there_now other apart) ∙ none
    ]

    still_none : (other : ℕ) → entry_at slots other ≡ None → entry_at (slice_set slots place (Some e)) other ≡ None
    still_none other none = elim (cases_eq other place) [
      | inl same ↦ absurd (taken (ap (entry_at slots) (sym same) ∙ none))
      | inr apart ↦ there_now other apart ∙ none
    ]

    names : (other : ℕ) → name_at (slice_set slots place (Some e)) other ≡ name_at slots other
    names other = elim (cases_eq other place) [
      | inl same ↦ ap (name_at (slice_set slots place (Some e))) same ∙ ap name_of here_now ∙ named ∙ ap (name_at slots) (sym same)
      | inr apart ↦ ap name_of (there_now other apart)
    ]
