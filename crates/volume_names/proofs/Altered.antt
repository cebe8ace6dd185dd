-- What stands in the slots of an edited volume stood there before, or is the entry that came.
use Rattle.std.proofs.Common.{◌≡◌, ◌≢◌, ◌⊎◌, ◌++◌, inl, inr, ℕ, zero, suc, List, [], ◌∷◌, get_or, replicate, Option, Some, None, IfSome, refl, sym, ap, subst, ◌∙◌, arith}
use Rattle.std.specs.Prelude.{slice_set}
use Rattle.directory.specs.Block.{entry_at}
use Rattle.directory.specs.declared.entry.DirEntry.{DirEntry}
use Rattle.volume.specs.Volume.{Slots, Volume, slots_of}
use Rattle.volume_edit.specs.Edit.{edited, with_entered, with_grown, with_left, without_slots}
use Rattle.volume_edit.specs.declared.edit.Edit.{Edit}
use Rattle.volume_edit.specs.declared.edit.Entering.{Entering}
use Rattle.volume_edit.specs.declared.edit.Growth.{Growth}
use Rattle.volume_edit.specs.declared.edit.InodeEdit.{InodeEdit}
use Rattle.volume_edit.specs.declared.edit.Leaving.{Leaving}
use Rattle.volume_plan.proofs.EmptySlots.{empty_more}

-- ---- one slot, or the slots of one directory, are set

set_slot : (slots : Slots) (place : ℕ) (y : Option DirEntry) (p : ℕ) (x : DirEntry) → entry_at (slice_set slots place y) p ≡ Some x → ((place ≡ p) × (y ≡ Some x)) ⊎ ((place ≢ p) × (entry_at slots p ≡ Some x))
set_slot [] place y p x at = (let both : None ≡ Some x = at in cc)
set_slot (z ∷ slots) zero y zero x at = inl (refl, at)
set_slot (z ∷ slots) zero y (suc p) x at = inr (λ same. omega arith, at)
set_slot (z ∷ slots) (suc place) y zero x at = inr (λ same. omega arith, at)
set_slot (z ∷ slots) (suc place) y (suc p) x at = elim (set_slot slots place y p x at) [
  | inl here ↦ inl (ap suc here.0, here.1)
  | inr there ↦ inr (λ same. there.0 (omega arith), there.1)
]

set_slots : (ds : List Slots) (m k : ℕ) (slots : Slots) (p : ℕ) (x : DirEntry) → entry_at (get_or (slice_set ds m slots) k []) p ≡ Some x
    → ((m ≡ k) × (entry_at slots p ≡ Some x)) ⊎ ((m ≢ k) × (entry_at (get_or ds k []) p ≡ Some x))
set_slots [] m k slots p x at = (let both : None ≡ Some x = at in cc)
set_slots (d ∷ ds) zero zero slots p x at = inl (refl, at)
set_slots (d ∷ ds) zero (suc k) slots p x at = inr (λ same. omega arith, at)
set_slots (d ∷ ds) (suc m) zero slots p x at = inr (λ same. omega arith, at)
set_slots (d ∷ ds) (suc m) (suc k) slots p x at = elim (set_slots ds m k slots p x at) [
  | inl here ↦ inl (ap suc here.0, here.1)
  | inr there ↦ inr (λ same. there.0 (omega arith), there.1)
]

-- ---- step by step, backwards

without_at : (ds : List Slots) (o : Option InodeEdit) (k p : ℕ) (x : DirEntry) → entry_at (get_or (without_slots ds o) k []) p ≡ Some x → entry_at (get_or ds k []) p ≡ Some x
without_at ds None k p x at = at
without_at ds (Some i) k p x at = elim (set_slots ds i.ino.0 k [] p x at) [
  | inl here ↦ (let none : None ≡ Some x = here.1 in absurd (cc))
  | inr there ↦ there.1
]

data Entered (ds : List Slots) (o : Option Entering) (k p : ℕ) (x : DirEntry) : Type 0 where
  comes : (n : Entering) → o ≡ Some n → n.directory.0 ≡ k → n.entry ≡ x → Entered ds o k p x
  stays : IfSome o (λ n. n.directory.0 ≡ k → n.place ≢ p) → entry_at (get_or ds k []) p ≡ Some x → Entered ds o k p x

entered_at : (ds : List Slots) (o : Option Entering) (k p : ℕ) (x : DirEntry) → entry_at (get_or (with_entered ds o) k []) p ≡ Some x → Entered ds o k p x
entered_at ds None k p x at = stays tt at
entered_at ds (Some n) k p x at = elim (set_slots ds n.directory.0 k (slice_set (get_or ds n.directory.0 []) n.place (Some n.entry)) p x at) [
  | inr there ↦ stays (λ same. absurd (there.0 same)) there.1
  | inl here ↦ elim (set_slot (get_or ds n.directory.0 []) n.place (Some n.entry) p x here.1) [
    | inl put ↦ comes n refl here.0 (let both : Some n.entry ≡ Some x = put.1 in cc)
    | inr older ↦ stays (λ same. older.0) (subst (λ (m : ℕ). entry_at (get_or ds m []) p ≡ Some x) here.0 older.1)
  ]
]

left_at : (ds : List Slots) (o : Option Leaving) (k p : ℕ) (x : DirEntry) → entry_at (get_or (with_left ds o) k []) p ≡ Some x
    → IfSome o (λ l. l.directory.0 ≡ k → l.place ≢ p) × (entry_at (get_or ds k []) p ≡ Some x)
left_at ds None k p x at = (tt, at)
left_at ds (Some l) k p x at = elim (set_slots ds l.directory.0 k (slice_set (get_or ds l.directory.0 []) l.place None) p x at) [
  | inr there ↦ (λ same. absurd (there.0 same), there.1)
  | inl here ↦ elim (set_slot (get_or ds l.directory.0 []) l.place None p x here.1) [
    | inl put ↦ (let none : None ≡ Some x = put.1 in absurd (cc))
    | inr older ↦ (λ same. older.0, subst (λ (m : ℕ). entry_at (get_or ds m []) p ≡ Some x) here.0 older.1)
  ]
]

grown_at : (ds : List Slots) (o : Option Growth) (k p : ℕ) (x : DirEntry) → entry_at (get_or (with_grown ds o) k []) p ≡ Some x → entry_at (get_or ds k []) p ≡ Some x
grown_at ds None k p x at = at
grown_at ds (Some g) k p x at = elim (set_slots ds g.directory.0 k (get_or ds g.directory.0 [] ++ replicate 128 None) p x at) [
  | inr there ↦ there.1
  | inl here ↦ subst (λ (m : ℕ). entry_at (get_or ds m []) p ≡ Some x) here.0 (sym (empty_more (get_or ds g.directory.0 []) 128 p) ∙ here.1)
]

-- ---- the whole edit

-- an entry stood where neither the one that goes stood nor the one that comes stands
pub record Stood (v : Volume) (e : Edit) (k p : ℕ) (x : DirEntry) : Type 0 where
  pub there : entry_at (slots_of v k) p ≡ Some x
  pub left : IfSome e.leaving (λ l. l.directory.0 ≡ k → l.place ≢ p)
  pub over : IfSome e.entering (λ n. n.directory.0 ≡ k → n.place ≢ p)

pub data Origin (v : Volume) (e : Edit) (k p : ℕ) (x : DirEntry) : Type 0 where
  came : (n : Entering) → e.entering ≡ Some n → n.directory.0 ≡ k → n.entry ≡ x → Origin v e k p x
  stood : Stood v e k p x → Origin v e k p x

pub origin : (v : Volume) (e : Edit) (k p : ℕ) (x : DirEntry) → entry_at (slots_of (edited v e) k) p ≡ Some x → Origin v e k p x
origin v e k p x at =
    let grown : List Slots = with_grown v.directories e.growth in
    let left : List Slots = with_left grown e.leaving in
    elim (entered_at left e.entering k p x (without_at (with_entered left e.entering) e.inode k p x at)) [
      | comes n is here same ↦ came n is here same
      | stays over there ↦ (let l = left_at grown e.leaving k p x there in stood (record { there = grown_at v.directories e.growth k p x l.1; left = l.0; over = over }))
    ]
