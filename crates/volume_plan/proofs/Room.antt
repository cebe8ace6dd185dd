-- Where a directory has no empty slot and may grow, a change that has its block gets the least free one.
use Rattle.std.proofs.Common.{◌≡◌, ◌<◌, ◌≤◌, ◌+◌, ◌==◌, ◌&&◌, ◌++◌, ℕ, zero, suc, Bool, true, false, not, nat_lt, List, [], ◌∷◌, length, get_or, replicate, slice_get, Option, Some, None, cond, refl, sym, ap, subst, ◌∙◌, arith, if◌then◌else◌, length-append}
use Rattle.cal_base.specs.Limits as limits
use Rattle.std.proofs.lemmas.Bool.{eqb-true, eqb-false, lt-ltb, ltb-true}
use Rattle.std.proofs.lemmas.List.{length-replicate}
use Rattle.std.proofs.lemmas.List.Quantifiers.{position-Some}
use Rattle.std.proofs.lemmas.List.Sums.{sum_by-cons}
use Rattle.std.proofs.lemmas.Option.{slice_get-get_or}
use Rattle.std.specs.List.{count_by, position, position_or_len}
use Rattle.cal_base.specs.declared.identity.Ino.{Ino}
use Rattle.directory.specs.declared.entry.DirEntry.{DirEntry}
use Rattle.directory.specs.Block.{entry_at}
use Rattle.directory.specs.Directory.{entry_count, first_empty}
use Rattle.volume.specs.Volume.{Slots, Volume}
use Rattle.volume_edit.specs.declared.edit.Growth.{Growth}
use Rattle.volume_plan.specs.Plans.{blocks_needed, free_count, growth_by, growth_of, grows, least_block}
use Rattle.volume_plan.proofs.SlotEntries.{entry_at-behind, first_empty-full, first_empty-most}

-- ---- the first that passes a test

-- where some pass, a first one does
counted_first : {X : Type 0} (p : X → Bool) (xs : List X) → 1 ≤ count_by p xs → position_or_len p xs < length xs
counted_first p [] some = absurd (omega arith)
counted_first p (x ∷ xs) some =
    elim (p x) as (λ b. cond b 1 0 + count_by p xs ≡ count_by p (x ∷ xs) → cond (not b) (1 + position_or_len p xs) 0 < suc (length xs)) [
      | true ↦ λ e. omega arith
      | false ↦ λ e. (let rest = counted_first p xs (omega arith) in omega arith)
    ] (sym (sum_by-cons (λ y. cond (p y) 1 0) x xs))

-- a place at which a test passes
pub record PassesAt {X : Type 0} (p : X → Bool) (xs : List X) (at : ℕ) : Type 0 where
  pub within : at < length xs
  pub passes : (d : X) → p (get_or xs at d) ≡ true

pub position_passes : {X : Type 0} (p : X → Bool) (xs : List X) (at : ℕ) → position p xs ≡ Some at → X → PassesAt p xs at
position_passes p xs at is x = record {
  within = (position-Some p xs at x is).0;
  passes = λ d. (position-Some p xs at d is).1;
}

pub position_there : {X : Type 0} (p : X → Bool) (xs : List X) → 1 ≤ count_by p xs → position p xs ≡ Some (position_or_len p xs)
position_there p xs some = ap (λ (b : Bool). cond b (Some (position_or_len p xs)) None) (lt-ltb _ _ (counted_first p xs some))

-- ---- growing

and_both : (a b : Bool) → (a && b) ≡ true → (a ≡ true) × (b ≡ true)
and_both true b e = (refl, e)
and_both false b e = absurd (cc)

-- a directory is full, and may have a block more
pub record IsFull (slots : Slots) : Type 0 where
  pub full : first_empty slots ≡ length slots
  pub fewer : length slots < limits.directory_entries

pub grows_full : (slots : Slots) → grows slots ≡ true → IsFull slots
grows_full slots is =
    let both = and_both (first_empty slots == length slots) (nat_lt (length slots) 1024) is in
    record { full = eqb-true (first_empty slots) (length slots) both.0; fewer = ltb-true (length slots) 1024 both.1 }

-- with room for an entry and no need of a block there is an empty slot
pub grows_not : (slots : Slots) → entry_count slots < limits.directory_entries → grows slots ≡ false → first_empty slots < length slots
grows_not slots few not =
    elim (first_empty slots == length slots) as (λ b. (first_empty slots == length slots) ≡ b → (b && nat_lt (length slots) 1024) ≡ false → first_empty slots < length slots) [
      | true ↦ λ e less. (let full = eqb-true (first_empty slots) (length slots) e in let count = first_empty-full slots full in
          let below = lt-ltb (length slots) 1024 (omega arith) in absurd (cc))
      | false ↦ λ e less. (let apart = eqb-false (first_empty slots) (length slots) e in let most = first_empty-most slots in omega arith)
    ] refl not

-- a free block for a full directory
pub record IsRoom (v : Volume) (place : Ino) (slots : Slots) (g : Growth) : Type 0 where
  pub directory : g.directory ≡ place
  pub full : IsFull slots
  pub free : slice_get v.free g.block ≡ Some true
  pub within : g.block < length v.free

-- the slots have an empty one, or get a free block
abbrev pub IsReady : Volume → Ino → Slots → Option Growth → Type 0
IsReady v place slots (Some g) = IsRoom v place slots g
IsReady v place slots None = first_empty slots < length slots

room_by : (v : Volume) (place : Ino) (slots : Slots) → IsFull slots → 1 ≤ free_count v → IsReady v place slots (growth_by place (least_block v))
room_by v place slots full some =
    let at = position_there (λ free. free) v.free some in
    let first = position_passes (λ free. free) v.free (position_or_len (λ free. free) v.free) at true in
    let there : slice_get v.free (position_or_len (λ free. free) v.free) ≡ Some true = slice_get-get_or v.free (position_or_len (λ free. free) v.free) false first.within ∙ ap (λ (b : Bool). Some b) (first.passes false) in
    subst (λ (block : Option ℕ). IsReady v place slots (growth_by place block)) (sym at) (record { directory = refl; full = full; free = there; within = first.within })

-- a change that has as many blocks as it needs finds its slots ready
pub readied : (v : Volume) (place : Ino) (slots : Slots) → entry_count slots < limits.directory_entries → nat_lt (free_count v) (blocks_needed slots) ≡ false → IsReady v place slots (growth_of v place slots)
readied v place slots few enough =
    elim (grows slots) as (λ b. grows slots ≡ b → nat_lt (free_count v) (if b then 1 else 0) ≡ false → IsReady v place slots (if b then growth_by place (least_block v) else None)) [
      | true ↦ λ e room. room_by v place slots (grows_full slots e) (some_free (free_count v) room)
      | false ↦ λ e room. grows_not slots few e
    ] refl enough
  where
    some_free : (n : ℕ) → nat_lt n 1 ≡ false → 1 ≤ n
    some_free zero room = (let less = lt-ltb 0 1 (omega arith) in absurd (cc))
    some_free (suc n) room = omega arith

-- ---- the slots once they are ready

abbrev pub with_block : Slots → Option Growth → Slots
with_block slots (Some g) = slots ++ replicate 128 None
with_block slots None = slots

pub ready_entry : (slots : Slots) (g : Option Growth) (q : ℕ) → entry_at (with_block slots g) q ≡ entry_at slots q
ready_entry slots (Some g) q = entry_at-behind slots 128 q
ready_entry slots None q = refl

pub ready_within : (v : Volume) (place : Ino) (slots : Slots) (g : Option Growth) → IsReady v place slots g → first_empty slots < length (with_block slots g)
ready_within v place slots (Some g) room = (let full = room.full.full in omega (arith, length-append slots (replicate 128 None), length-replicate {A = Option DirEntry} 128 None))
ready_within v place slots None room = room
