-- Slots before and after the changes of one edit.
use Rattle.std.proofs.Common.{◌≡◌, ◌≢◌, ◌+◌, ◌-◌, ◌*◌, ◌%◌, length-append, length-take, length-drop, ◌<◌, ◌≤◌, ◌==◌, ◌++◌, if◌then◌else◌, ℕ, zero, suc, Bool, true, false, List, [], ◌∷◌, length, take, drop, replicate, Option, None, Some, refl, sym, ap, ◌∙◌, subst, arith, inl, inr}
use Rattle.std.specs.List.{slice_set}
use Rattle.std.proofs.lemmas.Bool.{cases_eq}
use Rattle.std.proofs.lemmas.Bool.Decides.{nat_tests}
use Rattle.std.proofs.lemmas.List.{get_or-drop, get_or-set_other, get_or-set_same, get_or_default, length-set, length-replicate}
use Rattle.cal_base.specs.Limits.{block_size, directory_entries, slots_per_block}
use Rattle.directory.specs.declared.entry.DirEntry.{DirEntry}
use Rattle.directory.specs.declared.slot_changes.PlacedEntry.{PlacedEntry}
use Rattle.directory.specs.declared.slot_changes.SlotChanges.{SlotChanges}
use Rattle.cal_fields.specs.Padded.{padded}
use Rattle.directory.specs.Block.{AreEntries, IsEntry, SpellsBlock, entry_at, slot_bytes, slots_bytes}
use Rattle.directory.specs.Directory.{IsAbsent, IsAlone, IsDirectory, block_slots}
use Rattle.directory.specs.Changed.{after, entered, entered_at, grown, left, left_at, placed}
use Rattle.directory.proofs.Directories.{are_drop, are_take, directory_filled, directory_removed, entry_at-room, length-slots_bytes, padded_full}
use Rattle.directory.proofs.SlotBytes.{put_more}

-- what is set twice is what was set last
pub set_twice : (slots : List (Option DirEntry)) (place : ℕ) (x y : Option DirEntry) → slice_set (slice_set slots place x) place y ≡ slice_set slots place y
set_twice [] place x y = refl
set_twice (z ∷ slots) zero x y = refl
set_twice (z ∷ slots) (suc place) x y = ap (λ (xs : List (Option DirEntry)). z ∷ xs) (set_twice slots place x y)

at_emptied : (slots : List (Option DirEntry)) (place : ℕ) → entry_at (slice_set slots place None) place ≡ None
at_emptied [] place = refl
at_emptied (x ∷ slots) zero = refl
at_emptied (x ∷ slots) (suc place) = at_emptied slots place

chosen : (a b : ℕ) (x y : Option DirEntry) → a ≡ b → (if a == b then x else y) ≡ x
chosen a b x y same = grind (arith, nat_tests)

passed : (a b : ℕ) (x y : Option DirEntry) → a ≢ b → (if a == b then x else y) ≡ y
passed a b x y apart = grind (arith, nat_tests)

at_grown : (grows : Bool) (slots : List (Option DirEntry)) (place : ℕ) → entry_at (grown grows slots) place ≡ entry_at slots place
at_grown true slots place = entry_at-room slots 128 place
at_grown false slots place = refl

at_left : (leaving : Option ℕ) (slots : List (Option DirEntry)) (place : ℕ) → entry_at (left leaving slots) place ≡ left_at leaving place (entry_at slots place)
at_left None slots place = refl
at_left (Some other) slots place = elim (cases_eq other place) [
  | inl same ↦ ap (λ (n : ℕ). entry_at (slice_set slots n None) place) same ∙ at_emptied slots place ∙ sym (chosen other place None (entry_at slots place) same)
  | inr apart ↦ get_or-set_other slots other place None None (λ same. apart (sym same)) ∙ sym (passed other place None (entry_at slots place) apart)
]

at_entered : (entering : Option PlacedEntry) (slots : List (Option DirEntry)) (place : ℕ) → place < length (entered (placed entering) slots)
    → entry_at (entered (placed entering) slots) place ≡ entered_at entering place (entry_at slots place)
at_entered None slots place within = refl
at_entered (Some p) slots place within = elim (cases_eq p.place place) [
  | inl same ↦ (
      let size = length-set slots p.place (Some p.entry.now) in
      ap (λ (n : ℕ). entry_at (slice_set slots n (Some p.entry.now)) place) same ∙ get_or-set_same slots place (Some p.entry.now) None (omega arith)
      ∙ sym (chosen p.place place (Some p.entry.now) (entry_at slots place) same))
  | inr apart ↦ get_or-set_other slots p.place place (Some p.entry.now) None (λ same. apart (sym same)) ∙ sym (passed p.place place (Some p.entry.now) (entry_at slots place) apart)
]

-- what stands at a place after the changes
pub at_after : (changes : SlotChanges) (slots : List (Option DirEntry)) (place : ℕ) → place < length (after changes slots)
    → entry_at (after changes slots) place ≡ entered_at changes.entering place (left_at changes.leaving place (entry_at slots place))
at_after changes slots place within =
    at_entered changes.entering (left changes.leaving (grown changes.grows slots)) place within
    ∙ ap (entered_at changes.entering place) (at_left changes.leaving (grown changes.grows slots) place ∙ ap (left_at changes.leaving place) (at_grown changes.grows slots place))

pub entry_told : (changes : SlotChanges) (slots : List (Option DirEntry)) (place : ℕ) (a b c : Option DirEntry) → place < length (after changes slots)
    → a ≡ entry_at slots place → b ≡ left_at changes.leaving place a → c ≡ entered_at changes.entering place b → c ≡ entry_at (after changes slots) place
entry_told changes slots place a b c within first second third =
    third ∙ ap (entered_at changes.entering place) (second ∙ ap (left_at changes.leaving place) first) ∙ sym (at_after changes slots place within)

-- one slot more of a block
pub block_more : (old now new : List ℕ) (slots : List (Option DirEntry)) (first at : ℕ) (x : Option DirEntry) → first + at < length slots → x ≡ entry_at slots (first + at)
    → now ≡ old ++ slots_bytes (take at (drop first slots)) → new ≡ now ++ slot_bytes x → new ≡ old ++ slots_bytes (take (at + 1) (drop first slots))
block_more old now new slots first at x within is before put =
    let size = length-drop first slots in
    let inside : at < length (drop first slots) = omega arith in
    let read : entry_at (drop first slots) at ≡ entry_at slots (first + at) = get_or-drop first slots at None in
    put_more old now new (drop first slots) at x inside (is ∙ sym read ∙ sym (get_or_default (drop first slots) at x None inside)) before put

-- a block of empty slots more
pub directory_grown : (slots : List (Option DirEntry)) → IsDirectory slots → length slots < directory_entries → IsDirectory (slots ++ replicate slots_per_block None)
directory_grown slots d room =
    let size = length-append {A = Option DirEntry} slots (replicate slots_per_block None) in
    let block : length (replicate {A = Option DirEntry} 128 None) ≡ 128 = length-replicate {A = Option DirEntry} 128 None in
    let whole = d.whole in
    record {
      whole = omega arith;
      few = omega arith;
      entries = λ p e at. d.entries p e (sym (entry_at-room slots 128 p) ∙ at);
      distinct = λ i j a b at_i at_j same. d.distinct i j a b (sym (entry_at-room slots 128 i) ∙ at_i) (sym (entry_at-room slots 128 j) ∙ at_j) same;
    }

-- what stands once a slot is empty stood before, elsewhere
pub absent_elsewhere : (slots : List (Option DirEntry)) (place : ℕ) (name : List ℕ) → IsAlone slots name place → IsAbsent (slice_set slots place None) name
absent_elsewhere slots place name alone at e stands same = elim (cases_eq at place) [
  | inl here ↦ (let both : None ≡ Some e = sym (at_emptied slots place) ∙ ap (entry_at (slice_set slots place None)) (sym here) ∙ stands in cc)
  | inr apart ↦ apart (alone at e (sym (get_or-set_other slots place at None None apart) ∙ stands) same)
]

-- an entry in a slot, whatever stood there
pub directory_set : (slots : List (Option DirEntry)) (place : ℕ) (e : DirEntry) → IsDirectory slots → IsEntry e → IsAlone slots e.name place → IsDirectory (slice_set slots place (Some e))
directory_set slots place e d is alone =
    subst IsDirectory (set_twice slots place None (Some e))
    (directory_filled (slice_set slots place None) place e (directory_removed slots place d) (absent_elsewhere slots place e.name alone) is)

-- whole blocks stay whole
left_whole : (leaving : Option ℕ) (slots : List (Option DirEntry)) → length (left leaving slots) ≡ length slots
left_whole None slots = refl
left_whole (Some place) slots = length-set slots place None

entered_whole : (entering : Option PlacedEntry) (slots : List (Option DirEntry)) → length (entered (placed entering) slots) ≡ length slots
entered_whole None slots = refl
entered_whole (Some p) slots = length-set slots p.place (Some p.entry.now)

grown_whole : (grows : Bool) (slots : List (Option DirEntry)) → length slots % slots_per_block ≡ 0 → length (grown grows slots) % slots_per_block ≡ 0
grown_whole true slots whole =
    let size = length-append {A = Option DirEntry} slots (replicate slots_per_block None) in
    let block : length (replicate {A = Option DirEntry} 128 None) ≡ 128 = length-replicate {A = Option DirEntry} 128 None in
    omega arith
grown_whole false slots whole = whole

pub after_whole : (changes : SlotChanges) (slots : List (Option DirEntry)) → length slots % slots_per_block ≡ 0 → length (after changes slots) % slots_per_block ≡ 0
after_whole changes slots whole =
    let e = entered_whole changes.entering (left changes.leaving (grown changes.grows slots)) in
    let l = left_whole changes.leaving (grown changes.grows slots) in
    let g = grown_whole changes.grows slots whole in
    omega arith

-- the block that holds a slot is there whole
pub after_within : (changes : SlotChanges) (now slots seen : List (Option DirEntry)) (block : ℕ) → IsDirectory slots → slots ≡ now → seen ≡ slots → 128 * block < length (after changes now)
    → 128 * block + 128 ≤ length (after changes seen)
after_within changes now slots seen block d view saw within =
    let same : seen ≡ now = saw ∙ view in
    let whole = after_whole changes now (subst (λ (xs : List (Option DirEntry)). length xs % slots_per_block ≡ 0) view d.whole) in
    let fits : 128 * block + 128 ≤ length (after changes now) = omega arith in
    subst (λ (xs : List (Option DirEntry)). 128 * block + 128 ≤ length (after changes xs)) (sym same) fits

-- a block is stored as it will be
pub stored_changed : (changes : SlotChanges) (now slots seen : List (Option DirEntry)) (block : ℕ) (fields sector : List ℕ) → IsDirectory slots → slots ≡ now → seen ≡ slots
    → 128 * block < length (after changes now) → AreEntries (after changes now)
    → fields ≡ slots_bytes (block_slots (after changes seen) block) → sector ≡ padded block_size fields → SpellsBlock sector (block_slots (after changes now) block)
stored_changed changes now slots seen block fields sector d view saw within entries put finished =
    let same : seen ≡ now = saw ∙ view in
    let fits = after_within changes now slots now block d view (sym view) within in
    let part = block_slots (after changes now) block in
    let are : AreEntries part = are_take (128 * block + 128 - 128 * block) (drop (128 * block) (after changes now)) (are_drop (128 * block) (after changes now) entries) in
    let count : length part ≡ 128 = omega (arith, length-take (128 * block + 128 - 128 * block) (drop (128 * block) (after changes now)), length-drop (128 * block) (after changes now)) in
    let spelled : fields ≡ slots_bytes part = put ∙ ap (λ (xs : List (Option DirEntry)). slots_bytes (block_slots (after changes xs) block)) same in
    let size : length (slots_bytes part) ≡ 4096 = omega (arith, length-slots_bytes part are) in
    record { count = count; entries = are; whole = finished ∙ ap (padded block_size) spelled ∙ padded_full (slots_bytes part) size }
