-- Where an entry goes: the first empty slot of a directory, or the first of a new block.
use Rattle.std.proofs.Common.{◌≡◌, ◌≤◌, ◌<◌, ◌++◌, ℕ, zero, suc, true, false, [], ◌∷◌, length, replicate, slice_set, Some, None, refl, inl, inr, arith}
use Rattle.cal_base.specs.Limits as limits
use Rattle.std.proofs.lemmas.Bool.{cases_lt}
use Rattle.std.proofs.lemmas.Bool.Decides.{nat_tests}
use Rattle.std.proofs.lemmas.List.{length-set}
use Rattle.directory.specs.Block.{entry_at}
use Rattle.directory.specs.Directory.{entry_count, first_empty}
use Rattle.directory.proofs.Directories.{all_taken}
use Rattle.volume.specs.Volume.{Slots}
use Rattle.volume_plan.specs.Plans.{grows}
use Rattle.volume_plan.proofs.EditParts.{same_default}

pub empty_within : (slots : Slots) → first_empty slots ≤ length slots
unfolding first_empty
empty_within [] = omega arith
empty_within (None ∷ slots) = omega arith
empty_within (Some e ∷ slots) = let rest = empty_within slots in omega arith

pub empty_at : (slots : Slots) → entry_at slots (first_empty slots) ≡ None
unfolding first_empty
empty_at [] = refl
empty_at (None ∷ slots) = refl
empty_at (Some e ∷ slots) = empty_at slots

-- no empty slot is before the first
pub empty_first : (slots : Slots) (place : ℕ) → entry_at slots place ≡ None → first_empty slots ≤ place
unfolding first_empty
empty_first [] place none = omega arith
empty_first (None ∷ slots) place none = omega arith
empty_first (Some e ∷ slots) zero none = absurd (cc)
empty_first (Some e ∷ slots) (suc place) none = let rest = empty_first slots place none in omega arith

-- where a directory doesn't grow, and isn't full, a slot is empty
pub room_within : (slots : Slots) → length slots ≤ 1024 → entry_count slots < limits.directory_entries → grows slots ≡ false → first_empty slots < length slots
room_within slots few room same =
    elim (cases_lt (first_empty slots) (length slots)) [
      | inl below ↦ below
      | inr past ↦
          let most = empty_within slots in
          let none : first_empty slots ≡ length slots = omega arith in
          let all = all_taken slots none in
          let grown : grows slots ≡ true = grind (arith, nat_tests) in
          absurd (cc)
    ]

-- where a directory grows no slot is empty, and there are fewer than 1,024
pub record Grown (slots : Slots) : Type 0 where
  pub none : first_empty slots ≡ length slots
  pub fewer : length slots < limits.directory_entries

pub grows_is : (slots : Slots) → grows slots ≡ true → Grown slots
grows_is slots grown = record { none = grind (arith, nat_tests); fewer = grind (arith, nat_tests) }

pub empty_more : (slots : Slots) (count place : ℕ) → entry_at (slots ++ replicate count None) place ≡ entry_at slots place
empty_more [] count place = same_default count place None
empty_more (slot ∷ slots) count zero = refl
empty_more (slot ∷ slots) count (suc place) = empty_more slots count place

pub emptied : (slots : Slots) (place : ℕ) → entry_at (slice_set slots place None) place ≡ None
emptied [] place = refl
emptied (slot ∷ slots) zero = refl
emptied (slot ∷ slots) (suc place) = emptied slots place

-- a directory of which a slot was emptied doesn't grow
pub emptied_stays : (slots : Slots) (place : ℕ) → place < length slots → grows (slice_set slots place None) ≡ false
emptied_stays slots place within =
    let long : length (slice_set slots place None) ≡ length slots = length-set slots place None in
    let first = empty_first (slice_set slots place None) place (emptied slots place) in
    grind (arith, nat_tests)
