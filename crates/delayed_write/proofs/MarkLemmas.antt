use Rattle.std.proofs.Common.{◌≡◌, ◌+◌, ◌-◌, ◌<◌, ◌≤◌, ◌/◌, ◌⊎◌, ◌↔◌, ◌*◌, inl, inr, ℕ, zero, suc, Bool, true, false, nat_eq, nat_lt, List, ◌++◌, take, drop, replicate, length, get_or, refl, sym, ap, ◌∙◌, arith, length-append}
use Rattle.std.proofs.lemmas.Bool.{false≢true, cases_lt, cond-true, cond-false, lt-ltb, le-ltb, ne_eqb}
use Rattle.std.proofs.lemmas.List.{length-drop, get_or_append_left, get_or-append_right, get_or-take, get_or-drop, get_or-replicate, get_or_past, length-replicate, length-take-le}
use Rattle.cal_base.specs.Blocks.{block_count}
use Rattle.delayed_write.specs.Marks.{BeginsBefore, HoldsEnd, HoldsWritten, is_marked, marked_by_shrink, marked_by_truncate, marked_by_write, with_marks}

-- marks that are set stay as many
pub length-with_marks : (marks : List Bool) (from to : ℕ) (mark : Bool) → from ≤ to → to ≤ length marks → length (with_marks marks from to mark) ≡ length marks
length-with_marks marks from to mark order within =
    omega (arith, length-append (take from marks) (replicate (to - from) mark ++ drop to marks), length-append (replicate (to - from) mark) (drop to marks), length-replicate (to - from) mark, length-take-le from marks (omega arith), length-drop to marks)

-- a mark below those that were set
pub marked_below : (marks : List Bool) (from to : ℕ) (mark : Bool) (i : ℕ) → from ≤ to → to ≤ length marks → i < from → is_marked (with_marks marks from to mark) i ≡ is_marked marks i
marked_below marks from to mark i order within low =
    let size : length (take from marks) ≡ from = length-take-le from marks (omega arith) in
    get_or_append_left (take from marks) (replicate (to - from) mark ++ drop to marks) false i (omega arith) ∙ get_or-take from marks i false low

-- a mark that was set
pub marked_within : (marks : List Bool) (from to : ℕ) (mark : Bool) (i : ℕ) → from ≤ to → to ≤ length marks → from ≤ i → i < to → is_marked (with_marks marks from to mark) i ≡ mark
marked_within marks from to mark i order within low high =
    let size : length (take from marks) ≡ from = length-take-le from marks (omega arith) in
    let count : length (replicate (to - from) mark) ≡ to - from = length-replicate (to - from) mark in
    get_or-append_right (take from marks) (replicate (to - from) mark ++ drop to marks) from i false size low
    ∙ get_or_append_left (replicate (to - from) mark) (drop to marks) false (i - from) (omega arith)
    ∙ get_or-replicate (to - from) (i - from) mark false (omega arith)

-- a mark above those that were set
pub marked_above : (marks : List Bool) (from to : ℕ) (mark : Bool) (i : ℕ) → from ≤ to → to ≤ length marks → to ≤ i → is_marked (with_marks marks from to mark) i ≡ is_marked marks i
marked_above marks from to mark i order within high =
    let size : length (take from marks) ≡ from = length-take-le from marks (omega arith) in
    let count : length (replicate (to - from) mark) ≡ to - from = length-replicate (to - from) mark in
    get_or-append_right (take from marks) (replicate (to - from) mark ++ drop to marks) from i false size (omega arith)
    ∙ get_or-append_right (replicate (to - from) mark) (drop to marks) (to - from) (i - from) false count (omega arith)
    ∙ get_or-drop to marks (i - from - (to - from)) false
    ∙ ap (λ (k : ℕ). get_or marks k false) (omega arith)

-- no mark is none
pub unmarked : (n i : ℕ) → get_or (replicate n false) i false ≡ false
unmarked zero i = refl
unmarked (suc n) zero = refl
unmarked (suc n) (suc i) = unmarked n i

-- the marks of a write that has bytes
write_marks : (marks : List Bool) (offset count : ℕ) → marked_by_write marks offset (suc count) ≡ with_marks marks (offset / 4096) (block_count (offset + suc count)) true
write_marks marks offset count = cond-false (nat_eq (suc count) 0) marks (with_marks marks (offset / 4096) (block_count (offset + suc count)) true) (ne_eqb (suc count) 0 (λ e. omega arith))

-- what isn't marked after a write wasn't marked before it, and holds none of its bytes
pub unmarked_by_write : (marks : List Bool) (offset count i : ℕ) → length marks ≡ 64 → offset + count ≤ 262144
    → is_marked (marked_by_write marks offset count) (i / 4096) ≡ false → (is_marked marks (i / 4096) ≡ false) × ((i < offset) ⊎ (offset + count ≤ i))
unmarked_by_write marks offset zero i size end h = (h, elim (cases_lt i offset) as (λ _. (i < offset) ⊎ (offset + 0 ≤ i)) [ inl below ↦ inl below | inr above ↦ inr (omega arith) ])
unmarked_by_write marks offset (suc count) i size end h =
    let h : is_marked (with_marks marks (offset / 4096) (block_count (offset + suc count)) true) (i / 4096) ≡ false
    = ap (λ (ms : List Bool). is_marked ms (i / 4096)) (sym (write_marks marks offset count)) ∙ h in
    elim (cases_lt (i / 4096) (offset / 4096)) as (λ _. (is_marked marks (i / 4096) ≡ false) × ((i < offset) ⊎ (offset + suc count ≤ i))) [
      | inl below ↦ (sym (marked_below marks (offset / 4096) (block_count (offset + suc count)) true (i / 4096) (omega arith) (omega arith) below) ∙ h, inl (omega arith))
      | inr from_here ↦ elim (cases_lt (i / 4096) (block_count (offset + suc count))) as (λ _. (is_marked marks (i / 4096) ≡ false) × ((i < offset) ⊎ (offset + suc count ≤ i))) [
        | inl to_here ↦ absurd (false≢true (sym h ∙ marked_within marks (offset / 4096) (block_count (offset + suc count)) true (i / 4096) (omega arith) (omega arith) from_here to_here))
        | inr above ↦ (sym (marked_above marks (offset / 4096) (block_count (offset + suc count)) true (i / 4096) (omega arith) (omega arith) above) ∙ h, inr (omega arith))
      ]
    ]

-- a byte of a block that isn't marked after a shrinking truncate lies before the new end, in a block that wasn't marked, or in a block past the new end
pub unmarked_by_shrink : (marks : List Bool) (size i : ℕ) → length marks ≡ 64 → size ≤ 262144 → is_marked (marked_by_shrink marks size) (i / 4096) ≡ false
    → ((i < size) × (is_marked marks (i / 4096) ≡ false)) ⊎ (block_count size ≤ i / 4096)
unmarked_by_shrink marks size i long within h =
    let dropped : List Bool = with_marks marks (block_count size) 64 false in
    let long_too : length (with_marks marks (block_count size) 64 false) ≡ 64 = length-with_marks marks (block_count size) 64 false (omega arith) (omega arith) ∙ long in
    elim (cases_lt (i / 4096) (size / 4096)) as (λ _. ((i < size) × (is_marked marks (i / 4096) ≡ false)) ⊎ (block_count size ≤ i / 4096)) [
      | inl below ↦ inl (
        omega arith,
        sym (marked_below marks (block_count size) 64 false (i / 4096) (omega arith) (omega arith) (omega arith))
            ∙ sym (marked_below (with_marks marks (block_count size) 64 false) (size / 4096) (block_count size) true (i / 4096) (omega arith) (omega arith) below) ∙ h,
      )
      | inr from_here ↦ elim (cases_lt (i / 4096) (block_count size)) as (λ _. ((i < size) × (is_marked marks (i / 4096) ≡ false)) ⊎ (block_count size ≤ i / 4096)) [
        | inl to_here ↦ absurd (false≢true (sym h ∙ marked_within (with_marks marks (block_count size) 64 false) (size / 4096) (block_count size) true (i / 4096) (omega arith) (omega arith) from_here to_here))
        | inr above ↦ inr above
      ]
    ]

-- no block past the new end is marked after a shrinking truncate
pub shrink_below : (marks : List Bool) (size index : ℕ) → length marks ≡ 64 → size ≤ 262144 → is_marked (marked_by_shrink marks size) index ≡ true → index < block_count size
shrink_below marks size index long within h =
    let long_too : length (with_marks marks (block_count size) 64 false) ≡ 64 = length-with_marks marks (block_count size) 64 false (omega arith) (omega arith) ∙ long in
    elim (cases_lt index (block_count size)) as (λ _. index < block_count size) [
      | inl below ↦ below
      | inr above ↦
          (let same : is_marked (with_marks marks (block_count size) 64 false) index ≡ true
          = sym (marked_above (with_marks marks (block_count size) 64 false) (size / 4096) (block_count size) true index (omega arith) (omega arith) above) ∙ h in
          elim (cases_lt index 64) as (λ _. index < block_count size) [
            | inl inside ↦ absurd (false≢true (sym (marked_within marks (block_count size) 64 false index (omega arith) (omega arith) above inside) ∙ same))
            | inr past ↦ absurd (false≢true (sym (get_or_past (with_marks marks (block_count size) 64 false) index false (omega arith)) ∙ same))
          ])
    ]

-- the marks of a truncate, by whether it shrinks
pub truncate_shrinks : (marks : List Bool) (old size : ℕ) → size < old → marked_by_truncate marks old size ≡ marked_by_shrink marks size
truncate_shrinks marks old size less = cond-true (nat_lt size old) (marked_by_shrink marks size) marks (lt-ltb size old less)

pub truncate_keeps : (marks : List Bool) (old size : ℕ) → old ≤ size → marked_by_truncate marks old size ≡ marks
truncate_keeps marks old size more = cond-false (nat_lt size old) (marked_by_shrink marks size) marks (le-ltb size old more)

-- a block in which a byte of a write lies, by the places of its bytes
written_in : (offset count index : ℕ) → 0 < count → offset / 4096 ≤ index → index < block_count (offset + count) → HoldsWritten offset count index
written_in offset count index some low high =
    elim (cases_lt (index * 4096) offset) as (λ _. HoldsWritten offset count index) [
      | inl inside ↦ record { byte = offset; from = omega arith; before = omega arith; block = omega arith }
      | inr whole ↦ record { byte = index * 4096; from = whole; before = omega arith; block = omega arith }
    ]

-- the marks after a write that has bytes, by where the block stands
pub write_set : (marks : List Bool) (offset count index : ℕ) → length marks ≡ 64 → offset + suc count ≤ 262144
    → is_marked (with_marks marks (offset / 4096) (block_count (offset + suc count)) true) index ≡ true → (is_marked marks index ≡ true) ⊎ HoldsWritten offset (suc count) index
write_set marks offset count index long end h =
    elim (cases_lt index (offset / 4096)) as (λ _. (is_marked marks index ≡ true) ⊎ HoldsWritten offset (suc count) index) [
      | inl below ↦ inl (sym (marked_below marks (offset / 4096) (block_count (offset + suc count)) true index (omega arith) (omega arith) below) ∙ h)
      | inr low ↦ elim (cases_lt index (block_count (offset + suc count))) as (λ _. (is_marked marks index ≡ true) ⊎ HoldsWritten offset (suc count) index) [
        | inl high ↦ inr (written_in offset (suc count) index (omega arith) low high)
        | inr above ↦ inl (sym (marked_above marks (offset / 4096) (block_count (offset + suc count)) true index (omega arith) (omega arith) above) ∙ h)
      ]
    ]

-- marks that are set to true keep those that were
pub set_stays : (marks : List Bool) (from to index : ℕ) → from ≤ to → to ≤ length marks → is_marked marks index ≡ true → is_marked (with_marks marks from to true) index ≡ true
set_stays marks from to index order within set =
    elim (cases_lt index from) as (λ _. is_marked (with_marks marks from to true) index ≡ true) [
      | inl below ↦ marked_below marks from to true index order within below ∙ set
      | inr low ↦ elim (cases_lt index to) as (λ _. is_marked (with_marks marks from to true) index ≡ true) [
        | inl high ↦ marked_within marks from to true index order within low high
        | inr above ↦ marked_above marks from to true index order within above ∙ set
      ]
    ]

-- the marks after a write, both ways
pub write_exact : (marks : List Bool) (offset count index : ℕ) → length marks ≡ 64 → offset + count ≤ 262144
    → (is_marked (marked_by_write marks offset count) index ≡ true) ↔ ((is_marked marks index ≡ true) ⊎ HoldsWritten offset count index)
write_exact marks offset zero index long end =
    ((λ set. inl set), (λ h. elim h as (λ _. is_marked marks index ≡ true) [ inl set ↦ set | inr w ↦ absurd (let f = w.from in let b = w.before in omega arith) ]))
write_exact marks offset (suc count) index long end =
    let same : is_marked (marked_by_write marks offset (suc count)) index ≡ is_marked (with_marks marks (offset / 4096) (block_count (offset + suc count)) true) index
    = ap (λ (ms : List Bool). is_marked ms index) (write_marks marks offset count) in (
      (λ set. write_set marks offset count index long end (sym same ∙ set)),
      (λ h. same ∙ elim h as (λ _. is_marked (with_marks marks (offset / 4096) (block_count (offset + suc count)) true) index ≡ true) [
        | inl set ↦ set_stays marks (offset / 4096) (block_count (offset + suc count)) index (omega arith) (omega arith) set
        | inr w ↦
            (let from = w.from in let before = w.before in let block = w.block in
            marked_within marks (offset / 4096) (block_count (offset + suc count)) true index (omega arith) (omega arith) (omega arith) (omega arith))
      ]),
    )

-- the marks after a shrinking truncate, both ways
pub shrink_exact : (marks : List Bool) (size index : ℕ) → length marks ≡ 64 → size ≤ 262144
    → (is_marked (marked_by_shrink marks size) index ≡ true) ↔ (((is_marked marks index ≡ true) × BeginsBefore size index) ⊎ HoldsEnd size index)
shrink_exact marks size index long within =
    let long_too : length (with_marks marks (block_count size) 64 false) ≡ 64 = length-with_marks marks (block_count size) 64 false (omega arith) (omega arith) ∙ long in
    let P : Type 0 = ((is_marked marks index ≡ true) × BeginsBefore size index) ⊎ HoldsEnd size index in (
      (λ set.
          (let before : index < block_count size = shrink_below marks size index long within set in
          elim (cases_lt index (size / 4096)) as (λ _. ((is_marked marks index ≡ true) × BeginsBefore size index) ⊎ HoldsEnd size index) [
            | inl below ↦ inl (
              sym (marked_below marks (block_count size) 64 false index (omega arith) (omega arith) before)
                  ∙ sym (marked_below (with_marks marks (block_count size) 64 false) (size / 4096) (block_count size) true index (omega arith) (omega arith) below) ∙ set,
              omega arith,
            )
            | inr low ↦ inr (record { begins = omega arith; ends = omega arith })
          ])),
      (λ h. elim h as (λ _. is_marked (marked_by_shrink marks size) index ≡ true) [
        | inl kept ↦
            (let begins = kept.1 in
            let before : index < block_count size = omega arith in
            set_stays (with_marks marks (block_count size) 64 false) (size / 4096) (block_count size) index (omega arith) (omega arith)
            (marked_below marks (block_count size) 64 false index (omega arith) (omega arith) before ∙ kept.0))
        | inr e ↦
            (let begins = e.begins in let ends = e.ends in
            marked_within (with_marks marks (block_count size) 64 false) (size / 4096) (block_count size) true index (omega arith) (omega arith) (omega arith) (omega arith))
      ]),
    )
