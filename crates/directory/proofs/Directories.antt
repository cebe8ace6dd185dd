-- What each change leaves is a directory.
use Rattle.std.proofs.Common.{◌≡◌, ◌≢◌, ◌+◌, ◌-◌, ◌*◌, ◌%◌, ◌<◌, ◌≤◌, ◌++◌, ℕ, zero, suc, List, [], ◌∷◌, length, take, drop, replicate, Option, None, Some, refl, sym, ap, subst, ◌∙◌, arith, inl, inr, ◌⊎◌, append-nil, length-append, length-take, length-drop}
use Rattle.std.specs.List.{slice_set}
use Rattle.std.proofs.lemmas.Bool.{cases_eq}
use Rattle.std.proofs.lemmas.Bool.Decides.{nat_tests}
use Rattle.std.proofs.lemmas.List.{length-set, length-replicate}
use Rattle.cal_base.specs.Limits.{block_size, directory_entries, last_inode, slot_size, slots_per_block}
use Rattle.tree_law.specs.Path.{IsName}
use Rattle.cal_base.specs.declared.identity.Ino.{Ino}
use Rattle.cal_fields.specs.Padded.{padded, zeros}
use Rattle.directory.specs.declared.entry.DirEntry.{DirEntry}
use Rattle.directory.specs.Block.{AreEntries, IsEntry, SpellsBlock, entry_at, slot_bytes, slots_bytes}
use Rattle.directory.specs.Directory.{AreDistinct, Continues, IsAbsent, IsDirectory, Replaces, block_slots, entry_count, first_empty, inserted, with_room}
use Rattle.directory.proofs.SlotBytes.{length-slot_bytes, slot_is}

-- the entries of some slots and of those behind them
pub are_append : (xs ys : List (Option DirEntry)) → AreEntries xs → AreEntries ys → AreEntries (xs ++ ys)
are_append [] ys are_x are_y place e at = are_y place e at
are_append (x ∷ xs) ys are_x are_y zero e at = are_x 0 e at
are_append (x ∷ xs) ys are_x are_y (suc place) e at = are_append xs ys (λ p f h. are_x (suc p) f h) are_y place e at

pub are_take : (count : ℕ) (xs : List (Option DirEntry)) → AreEntries xs → AreEntries (take count xs)
are_take zero xs are place e at = (let both : None ≡ Some e = at in cc)
are_take (suc count) [] are place e at = (let both : None ≡ Some e = at in cc)
are_take (suc count) (x ∷ xs) are zero e at = are 0 e at
are_take (suc count) (x ∷ xs) are (suc place) e at = are_take count xs (λ p f h. are (suc p) f h) place e at

pub are_drop : (count : ℕ) (xs : List (Option DirEntry)) → AreEntries xs → AreEntries (drop count xs)
are_drop zero xs are place e at = are place e at
are_drop (suc count) [] are place e at = (let both : None ≡ Some e = at in cc)
are_drop (suc count) (x ∷ xs) are place e at = are_drop count xs (λ p f h. are (suc p) f h) place e at

-- one block more
pub directory_loaded : (old new : List (Option DirEntry)) (sector : List ℕ) → IsDirectory old → length old < directory_entries → Continues old sector new → IsDirectory new
directory_loaded old new sector d room k =
    let size = ap length k.whole ∙ length-append old k.slots in
    let block = k.spelled.count in
    let whole = d.whole in
    record {
      whole = omega arith;
      few = omega arith;
      entries = subst AreEntries (sym k.whole) (are_append old k.slots d.entries k.spelled.entries);
      distinct = k.distinct;
    }

-- what stands where one slot was changed
set_at : (slots : List (Option DirEntry)) (place : ℕ) (x : Option DirEntry) (p : ℕ) (e : DirEntry) → entry_at (slice_set slots place x) p ≡ Some e
    → ((p ≡ place) × (x ≡ Some e)) ⊎ ((p ≢ place) × (entry_at slots p ≡ Some e))
set_at [] place x p e at = (let both : None ≡ Some e = at in cc)
set_at (y ∷ slots) zero x zero e at = inl (refl, at)
set_at (y ∷ slots) zero x (suc p) e at = inr (λ same. omega arith, at)
set_at (y ∷ slots) (suc place) x zero e at = inr (λ same. omega arith, at)
set_at (y ∷ slots) (suc place) x (suc p) e at = elim (set_at slots place x p e at) [
  | inl here ↦ inl (ap suc here.0, here.1)
  | inr there ↦ inr (λ same. there.0 (omega arith), there.1)
]

-- one entry less
pub directory_removed : (slots : List (Option DirEntry)) (place : ℕ) → IsDirectory slots → IsDirectory (slice_set slots place None)
directory_removed slots place d =
    let size = length-set slots place None in
    let whole = d.whole in
    let few = d.few in
    record {
      whole = omega arith;
      few = omega arith;
      entries = λ p e at. d.entries p e (stood p e at);
      distinct = λ i j a b at_i at_j same. d.distinct i j a b (stood i a at_i) (stood j b at_j) same;
    }
  where
    stood : (p : ℕ) (e : DirEntry) → entry_at (slice_set slots place None) p ≡ Some e → entry_at slots p ≡ Some e
    stood p e at = elim (set_at slots place None p e at) [
      | inl here ↦ (let both : None ≡ Some e = here.1 in cc)
      | inr there ↦ there.1
    ]

-- one entry more, of a name that doesn't stand
pub directory_filled : (slots : List (Option DirEntry)) (place : ℕ) (e : DirEntry) → IsDirectory slots → IsAbsent slots e.name → IsEntry e → IsDirectory (slice_set slots place (Some e))
directory_filled slots place e d absent is =
    let size = length-set slots place (Some e) in
    let whole = d.whole in
    let few = d.few in
    record { whole = omega arith; few = omega arith; entries = entries; distinct = distinct }
  where
    entries : AreEntries (slice_set slots place (Some e))
    entries p f at = elim (set_at slots place (Some e) p f at) [
      | inl here ↦ (let same : Some e ≡ Some f = here.1 in let one : e ≡ f = cc in subst IsEntry one is)
      | inr there ↦ d.entries p f there.1
    ]

    distinct : AreDistinct (slice_set slots place (Some e))
    distinct i j a b at_i at_j same = elim (set_at slots place (Some e) i a at_i) [
      | inl here_i ↦ elim (set_at slots place (Some e) j b at_j) [
        | inl here_j ↦ here_i.0 ∙ sym here_j.0
        | inr there_j ↦ (let one : Some e ≡ Some a = here_i.1 in let ea : e ≡ a = cc in absurd (absent j b there_j.1 (sym same ∙ ap (λ (x : DirEntry). x.name) (sym ea))))
      ]
      | inr there_i ↦ elim (set_at slots place (Some e) j b at_j) [
        | inl here_j ↦ (let one : Some e ≡ Some b = here_j.1 in let eb : e ≡ b = cc in absurd (absent i a there_i.1 (same ∙ ap (λ (x : DirEntry). x.name) (sym eb))))
        | inr there_j ↦ d.distinct i j a b there_i.1 there_j.1 same
      ]
    ]

-- one entry of another inode
pub directory_replaced : (old new : List (Option DirEntry)) (name : List ℕ) (ino : ℕ) → IsDirectory old → 1 ≤ ino → ino ≤ last_inode → Replaces old name ino new → IsDirectory new
directory_replaced old new name ino d from_one to_511 r = subst IsDirectory (sym r.changed) changed
  where
    e : DirEntry
    e = record { name = name; ino = record { 0 = ino } }

    is : IsEntry e
    is = record { name = subst IsName r.stood.named (d.entries r.place r.stood.entry r.stood.there).name; from_one = from_one; to_511 = to_511 }

    now : List (Option DirEntry)
    now = slice_set old r.place (Some e)

    entries : AreEntries (slice_set old r.place (Some e))
    entries p f at = elim (set_at old r.place (Some e) p f at) [
      | inl here ↦ (let same : Some e ≡ Some f = here.1 in let one : e ≡ f = cc in subst IsEntry one is)
      | inr there ↦ d.entries p f there.1
    ]

    distinct : AreDistinct (slice_set old r.place (Some e))
    distinct i j a b at_i at_j same = elim (set_at old r.place (Some e) i a at_i) [
      | inl here_i ↦ elim (set_at old r.place (Some e) j b at_j) [
        | inl here_j ↦ here_i.0 ∙ sym here_j.0
        | inr there_j ↦ (
            let one : Some e ≡ Some a = here_i.1 in
            let ea : e ≡ a = cc in
            here_i.0 ∙ d.distinct r.place j r.stood.entry b r.stood.there there_j.1 (r.stood.named ∙ ap (λ (x : DirEntry). x.name) ea ∙ same))
      ]
      | inr there_i ↦ elim (set_at old r.place (Some e) j b at_j) [
        | inl here_j ↦ (
            let one : Some e ≡ Some b = here_j.1 in
            let eb : e ≡ b = cc in
            d.distinct i r.place a r.stood.entry there_i.1 r.stood.there (same ∙ ap (λ (x : DirEntry). x.name) (sym eb) ∙ sym r.stood.named) ∙ sym here_j.0)
        | inr there_j ↦ d.distinct i j a b there_i.1 there_j.1 same
      ]
    ]

    changed : IsDirectory (slice_set old r.place (Some e))
    changed =
        let size = length-set old r.place (Some e) in
        let whole = d.whole in
        let few = d.few in
        record { whole = omega arith; few = omega arith; entries = entries; distinct = distinct }

-- where the first empty slot is past the end, each slot has an entry
pub all_taken : (slots : List (Option DirEntry)) → first_empty slots ≡ length slots → entry_count slots ≡ length slots
unfolding first_empty entry_count
all_taken [] e = refl
all_taken (None ∷ slots) e = absurd (omega arith)
all_taken (Some x ∷ slots) e = ap suc (all_taken slots (omega arith))

pub room_full : (slots : List (Option DirEntry)) → first_empty slots ≡ length slots → with_room slots ≡ slots ++ replicate slots_per_block None
unfolding with_room
room_full slots e = grind (arith, nat_tests)

pub room_free : (slots : List (Option DirEntry)) → first_empty slots ≢ length slots → with_room slots ≡ slots
unfolding with_room
room_free slots e = grind (arith, nat_tests)

-- empty slots at the end are no entries
pub entry_at-room : (slots : List (Option DirEntry)) (count place : ℕ) → entry_at (slots ++ replicate count None) place ≡ entry_at slots place
entry_at-room [] zero place = refl
entry_at-room [] (suc count) zero = refl
entry_at-room [] (suc count) (suc place) = entry_at-room [] count place
entry_at-room (x ∷ slots) count zero = refl
entry_at-room (x ∷ slots) count (suc place) = entry_at-room slots count place

-- the bytes of entries
pub length-slots_bytes : (slots : List (Option DirEntry)) → AreEntries slots → length (slots_bytes slots) ≡ slot_size * length slots
unfolding slots_bytes
length-slots_bytes [] are = refl
length-slots_bytes (x ∷ slots) are =
    omega (arith, length-append (slot_bytes x) (slots_bytes slots), length-slot_bytes x (slot_is (x ∷ slots) 0 are), length-slots_bytes slots (λ p e h. are (suc p) e h))

-- a sector that is full has no zeros behind
pub padded_full : (bytes : List ℕ) → length bytes ≡ block_size → padded block_size bytes ≡ bytes
unfolding padded zeros
padded_full bytes size = (let none : 4096 - length bytes ≡ 0 = omega arith in ap (λ (n : ℕ). bytes ++ replicate n 0) none ∙ append-nil bytes)

-- a block is stored
pub stored : (now slots seen : List (Option DirEntry)) (block : ℕ) (fields sector : List ℕ) → IsDirectory slots → slots ≡ now → seen ≡ slots → 128 * block < length now
    → fields ≡ slots_bytes (take (128 * block + 128 - 128 * block) (drop (128 * block) seen)) → sector ≡ padded block_size fields → SpellsBlock sector (block_slots now block)
stored now slots seen block fields sector d view saw within put finished =
    let part = take (128 * block + 128 - 128 * block) (drop (128 * block) now) in
    let same : seen ≡ now = saw ∙ view in
    let is : IsDirectory now = subst IsDirectory view d in
    let whole = is.whole in
    let are : AreEntries part = are_take (128 * block + 128 - 128 * block) (drop (128 * block) now) (are_drop (128 * block) now is.entries) in
    let count : length part ≡ 128 = omega (arith, length-take (128 * block + 128 - 128 * block) (drop (128 * block) now), length-drop (128 * block) now) in
    let spelled : fields ≡ slots_bytes part = put ∙ ap (λ (xs : List (Option DirEntry)). slots_bytes (take (128 * block + 128 - 128 * block) (drop (128 * block) xs))) same in
    let size : length (slots_bytes part) ≡ 4096 = omega (arith, length-slots_bytes part are) in
    record { count = count; entries = are; whole = finished ∙ ap (padded block_size) spelled ∙ padded_full (slots_bytes part) size }

-- room is made: the slots hold what they held, and are whole blocks
pub entry_at-with_room : (slots : List (Option DirEntry)) (place : ℕ) → entry_at (with_room slots) place ≡ entry_at slots place
entry_at-with_room slots place = elim (cases_eq (first_empty slots) (length slots)) [
  | inl full ↦ ap (λ (xs : List (Option DirEntry)). entry_at xs place) (room_full slots full) ∙ entry_at-room slots 128 place
  | inr free ↦ ap (λ (xs : List (Option DirEntry)). entry_at xs place) (room_free slots free)
]

record Sized (slots : List (Option DirEntry)) : Type 0 where
  whole : length slots % slots_per_block ≡ 0
  few : length slots ≤ directory_entries

sized : (slots : List (Option DirEntry)) → Sized slots → entry_count slots < directory_entries → Sized (with_room slots)
sized slots s free = elim (cases_eq (first_empty slots) (length slots)) [
  | inl full ↦ (
      let taken = all_taken slots full in
      let size = ap length (room_full slots full) ∙ length-append slots (replicate slots_per_block None) in
      let block : length (replicate {A = Option DirEntry} 128 None) ≡ 128 = length-replicate {A = Option DirEntry} 128 None in
      let whole = s.whole in
      record { whole = omega arith; few = omega arith })
  | inr left ↦ subst Sized (sym (room_free slots left)) s
]

pub directory_room : (slots : List (Option DirEntry)) → IsDirectory slots → entry_count slots < directory_entries → IsDirectory (with_room slots)
directory_room slots d free =
    let s = sized slots (record { whole = d.whole; few = d.few }) free in
    record {
      whole = s.whole;
      few = s.few;
      entries = λ p e at. d.entries p e (sym (entry_at-with_room slots p) ∙ at);
      distinct = λ i j a b at_i at_j same. d.distinct i j a b (sym (entry_at-with_room slots i) ∙ at_i) (sym (entry_at-with_room slots j) ∙ at_j) same;
    }

-- a name that doesn't stand doesn't stand in an empty block either
pub absent_room : (now slots made : List (Option DirEntry)) (name other : List ℕ) → slots ≡ now → made ≡ with_room slots → other ≡ name → IsAbsent now name → IsAbsent made other
absent_room now slots made name other view room named absent p e at same =
    absent p e (ap (λ (xs : List (Option DirEntry)). entry_at xs p) (sym view) ∙ sym (entry_at-with_room slots p) ∙ ap (λ (xs : List (Option DirEntry)). entry_at xs p) (sym room) ∙ at) (same ∙ named)

-- an entry is inserted
pub directory_inserted : (now slots made new : List (Option DirEntry)) (place : ℕ) (name : List ℕ) (e : DirEntry) → IsDirectory slots → entry_count slots < directory_entries → slots ≡ now → made ≡ with_room slots
    → e.name ≡ name → IsAbsent now name → IsName name → 1 ≤ e.ino.0 → e.ino.0 ≤ last_inode → new ≡ slice_set made place (Some e) → IsDirectory new
directory_inserted now slots made new place name e d free view room named absent is from_one to_511 put =
    let whole : IsDirectory made = subst IsDirectory (sym room) (directory_room slots d free) in
    let entry : IsEntry e = record { name = subst IsName (sym named) is; from_one = from_one; to_511 = to_511 } in
    subst IsDirectory (sym put) (directory_filled made place e whole (absent_room now slots made name e.name view room named absent) entry)

pub is_inserted : (now slots made new : List (Option DirEntry)) (place : ℕ) (name : List ℕ) (ino : Ino) (e : DirEntry) → slots ≡ now → made ≡ with_room slots → place ≡ first_empty slots
    → e ≡ record { name = name; ino = ino } → new ≡ slice_set made place (Some e) → new ≡ inserted now (record { name = name; ino = ino })
unfolding inserted
is_inserted now slots made new place name ino e view room first is put =
    put ∙ ap (λ (xs : List (Option DirEntry)). slice_set xs place (Some e)) (room ∙ ap with_room view)
    ∙ ap (λ (n : ℕ). slice_set (with_room now) n (Some e)) (first ∙ ap first_empty view)
    ∙ ap (λ (x : DirEntry). slice_set (with_room now) (first_empty now) (Some x)) is
