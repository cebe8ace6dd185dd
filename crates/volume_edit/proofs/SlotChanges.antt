-- What a change of one slot, and a block more, do to the slots of directories.
use Rattle.std.proofs.Common.{◌≡◌, ◌≢◌, ◌<◌, ◌≤◌, ◌+◌, ◌-◌, ◌*◌, ◌/◌, ◌++◌, ◌⊎◌, ℕ, zero, suc, List, [], ◌∷◌, length, take, drop, replicate, Option, Some, None, refl, sym, ap, ◌∙◌, subst, inl, inr, arith, get_or, length-append, length-drop}
use Rattle.cal_base.specs.Limits as limits
use Rattle.std.specs.Prelude.{slice_set}
use Rattle.std.proofs.lemmas.Bool.{cases_eq, cases_lt}
use Rattle.std.proofs.lemmas.List.{drop-append-le, drop-set-add, drop-set-lt, get_or-set_other, get_or-set_same, length-replicate, length-set, take-append-le, take-set-le}
use Rattle.directory.specs.declared.entry.DirEntry.{DirEntry}
use Rattle.directory.specs.Block.{AreEntries, IsEntry, entry_at}
use Rattle.directory.specs.Directory.{AreDistinct, IsDirectory, block_slots}
use Rattle.volume.specs.Volume.{Slots}
use Rattle.volume_edit.specs.Edit.{with_slots}

-- a directory without slots
pub no_entries : IsDirectory []
no_entries = record { whole = refl; few = omega arith; entries = λ place e h. absurd (cc); distinct = λ i j a b ha hb same. absurd (cc) }

-- what stands where one slot was changed
set_at : (slots : Slots) (place : ℕ) (x : Option DirEntry) (p : ℕ) (e : DirEntry) → entry_at (slice_set slots place x) p ≡ Some e
    → ((p ≡ place) × (x ≡ Some e)) ⊎ ((p ≢ place) × (entry_at slots p ≡ Some e))
set_at [] place x p e at = (let both : None ≡ Some e = at in cc)
set_at (y ∷ slots) zero x zero e at = inl (refl, at)
set_at (y ∷ slots) zero x (suc p) e at = inr (λ same. omega arith, at)
set_at (y ∷ slots) (suc place) x zero e at = inr (λ same. omega arith, at)
set_at (y ∷ slots) (suc place) x (suc p) e at = elim (set_at slots place x p e at) [
  | inl here ↦ inl (ap suc here.0, here.1)
  | inr there ↦ inr (λ same. there.0 (omega arith), there.1)
]

-- an entry comes whose name stands nowhere else
pub directory_entered : (slots : Slots) (place : ℕ) (e : DirEntry) → IsDirectory slots → IsEntry e
    → ((p : ℕ) (other : DirEntry) → entry_at slots p ≡ Some other → other.name ≡ e.name → p ≡ place) → IsDirectory (slice_set slots place (Some e))
directory_entered slots place e d is alone =
    let size = length-set slots place (Some e) in
    let whole = d.whole in
    let few = d.few in
    record { whole = omega arith; few = omega arith; entries = entries; distinct = distinct }
  where
    entries : AreEntries (slice_set slots place (Some e))
    entries p f at = elim (set_at slots place (Some e) p f at) [
      | inl here ↦ (let same : Some e ≡ Some f = here.1 in let one : e ≡ f = cc in subst IsEntry one is)
      | inr there ↦ d.entries p f there.1
    ]

    distinct : AreDistinct (slice_set slots place (Some e))
    distinct i j a b at_i at_j same = elim (set_at slots place (Some e) i a at_i) [
      | inl here_i ↦ elim (set_at slots place (Some e) j b at_j) [
        | inl here_j ↦ here_i.0 ∙ sym here_j.0
        | inr there_j ↦ (let one : Some e ≡ Some a = here_i.1 in let ea : e ≡ a = cc in absurd (there_j.0 (alone j b there_j.1 (sym same ∙ ap (λ (x : DirEntry). x.name) (sym ea)))))
      ]
      | inr there_i ↦ elim (set_at slots place (Some e) j b at_j) [
        | inl here_j ↦ (let one : Some e ≡ Some b = here_j.1 in let eb : e ≡ b = cc in absurd (there_i.0 (alone i a there_i.1 (same ∙ ap (λ (x : DirEntry). x.name) (sym eb)))))
        | inr there_j ↦ d.distinct i j a b there_i.1 there_j.1 same
      ]
    ]

-- empty slots at the end are no entries
entry_at-behind : (slots : Slots) (count place : ℕ) → entry_at (slots ++ replicate count None) place ≡ entry_at slots place
entry_at-behind [] zero place = refl
entry_at-behind [] (suc count) zero = refl
entry_at-behind [] (suc count) (suc place) = entry_at-behind [] count place
entry_at-behind (x ∷ slots) count zero = refl
entry_at-behind (x ∷ slots) count (suc place) = entry_at-behind slots count place

pub length-grown : (slots : Slots) → length (slots ++ replicate 128 None) ≡ length slots + 128
length-grown slots = length-append slots (replicate 128 None) ∙ ap (λ (n : ℕ). length slots + n) (length-replicate {A = Option DirEntry} 128 None)

-- a block comes
pub directory_grown : (slots : Slots) → IsDirectory slots → length slots < limits.directory_entries → IsDirectory (slots ++ replicate 128 None)
directory_grown slots d fewer =
    let size = length-grown slots in
    let whole = d.whole in
    record {
      whole = omega arith;
      few = omega arith;
      entries = λ p e at. d.entries p e (sym (entry_at-behind slots 128 p) ∙ at);
      distinct = λ i j a b at_i at_j same. d.distinct i j a b (sym (entry_at-behind slots 128 i) ∙ at_i) (sym (entry_at-behind slots 128 j) ∙ at_j) same;
    }

-- a block in which no slot is changed
pub block_slots-set : (slots : Slots) (place : ℕ) (x : Option DirEntry) (block : ℕ) → place / 128 ≢ block → block_slots (slice_set slots place x) block ≡ block_slots slots block
block_slots-set slots place x block apart = elim (cases_lt place (128 * block)) [
  | inl before ↦ ap (take (128 * block + 128 - 128 * block)) (drop-set-lt (128 * block) slots place x before)
  | inr from ↦ (
      let moved : 128 * block + (place - 128 * block) ≡ place = omega arith in
      ap (λ (n : ℕ). take (128 * block + 128 - 128 * block) (drop (128 * block) (slice_set slots n x))) (sym moved)
      ∙ ap (take (128 * block + 128 - 128 * block)) (drop-set-add (128 * block) slots (place - 128 * block) x)
      ∙ take-set-le (128 * block + 128 - 128 * block) (drop (128 * block) slots) (place - 128 * block) x (omega arith))
]

-- a block before those that come
pub block_slots-append : (slots more : Slots) (block : ℕ) → 128 * block + 128 ≤ length slots → block_slots (slots ++ more) block ≡ block_slots slots block
block_slots-append slots more block within =
    ap (take (128 * block + 128 - 128 * block)) (drop-append-le (128 * block) slots more (omega arith))
    ∙ take-append-le (128 * block + 128 - 128 * block) (drop (128 * block) slots) more (let l = length-drop (128 * block) slots in omega arith)

-- one directory is changed
pub length-with_slots : (ds : List Slots) (number : ℕ) (change : Slots → Slots) → length (with_slots ds number change) ≡ length ds
length-with_slots ds number change = length-set ds number (change (get_or ds number []))

pub with_slots-same : (ds : List Slots) (number : ℕ) (change : Slots → Slots) → number < length ds → get_or (with_slots ds number change) number [] ≡ change (get_or ds number [])
with_slots-same ds number change within = get_or-set_same ds number (change (get_or ds number [])) [] within

pub with_slots-other : (ds : List Slots) (number : ℕ) (change : Slots → Slots) (m : ℕ) → m ≢ number → get_or (with_slots ds number change) m [] ≡ get_or ds m []
with_slots-other ds number change m apart = get_or-set_other ds number m (change (get_or ds number [])) [] apart

pub with_slots-each : (P : Slots → Type 0) (ds : List Slots) (number : ℕ) (change : Slots → Slots) → number < length ds → ((m : ℕ) → P (get_or ds m [])) → P (change (get_or ds number []))
    → (m : ℕ) → P (get_or (with_slots ds number change) m [])
with_slots-each P ds number change within each changed m = elim (cases_eq m number) [
  | inl same ↦ subst (λ (n : ℕ). P (get_or (with_slots ds number change) n [])) (sym same) (subst P (sym (with_slots-same ds number change within)) changed)
  | inr apart ↦ subst P (sym (with_slots-other ds number change m apart)) (each m)
]

-- one slot of a directory is changed
abbrev pub with_one : List Slots → ℕ → ℕ → Option DirEntry → List Slots
with_one ds number place x = with_slots ds number (λ slots. slice_set slots place x)

pub length-with_one : (ds : List Slots) (number place : ℕ) (x : Option DirEntry) (m : ℕ) → number < length ds → length (get_or (with_one ds number place x) m []) ≡ length (get_or ds m [])
length-with_one ds number place x m within = elim (cases_eq m number) [
  | inl same ↦ subst (λ (n : ℕ). length (get_or (with_one ds number place x) n []) ≡ length (get_or ds n [])) (sym same)
      (ap length (with_slots-same ds number (λ slots. slice_set slots place x) within) ∙ length-set (get_or ds number []) place x)
  | inr apart ↦ ap length (with_slots-other ds number (λ slots. slice_set slots place x) m apart)
]

pub block-with_one : (ds : List Slots) (number place : ℕ) (x : Option DirEntry) (m block : ℕ) → number < length ds → (number ≡ m → place / 128 ≢ block)
    → block_slots (get_or (with_one ds number place x) m []) block ≡ block_slots (get_or ds m []) block
block-with_one ds number place x m block within apart = elim (cases_eq m number) [
  | inl same ↦ subst (λ (n : ℕ). block_slots (get_or (with_one ds number place x) n []) block ≡ block_slots (get_or ds n []) block) (sym same)
      (ap (λ (s : Slots). block_slots s block) (with_slots-same ds number (λ slots. slice_set slots place x) within) ∙ block_slots-set (get_or ds number []) place x block (apart (sym same)))
  | inr other ↦ ap (λ (s : Slots). block_slots s block) (with_slots-other ds number (λ slots. slice_set slots place x) m other)
]
