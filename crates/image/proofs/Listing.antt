-- Slots, and inodes with their directories, read one after the other.
use Rattle.std.proofs.Common.{◌≡◌, ◌≢◌, ◌⊎◌, ◌+◌, ◌<◌, ◌≤◌, ◌∙◌, ℕ, zero, suc, List, [], ◌∷◌, get_or, slice_get, Some, None, length, refl, sym, ap, subst, arith, inl, inr}
use Rattle.std.specs.List.{slice_set}
use Rattle.std.proofs.lemmas.Option.{get_or_from_slice_get, slice_get-get_or, slice_get_within}
use Rattle.inode.specs.declared.inode.Inode.{Inode}
use Rattle.request_log.specs.Slot.{IsSlot}
use Rattle.request_log.specs.declared.slot.Slot.{Slot}
use Rattle.volume.specs.Volume.{Slots}
use Rattle.volume_edit.specs.Edit.{first_slot, free_inode}
use Rattle.image.specs.Damage.{HasBlocks, HasInode, HasSlot}
use Rattle.image.specs.Mount.{AreInodesRead, AreNodes, AreNodesRead, AreSlots, AreSlotsRead, IsNode, MayAllStand}

-- what stands where one place was set
get_set : {A : Type 0} (xs : List A) (i p : ℕ) (x y : A) → slice_get (slice_set xs i x) p ≡ Some y → ((p ≡ i) × (y ≡ x)) ⊎ ((p ≢ i) × (slice_get xs p ≡ Some y))
get_set [] i p x y at = (let both : None ≡ Some y = at in cc)
get_set (z ∷ xs) zero zero x y at = (let both : Some x ≡ Some y = at in inl (refl, cc))
get_set (z ∷ xs) zero (suc p) x y at = inr (λ same. omega arith, at)
get_set (z ∷ xs) (suc i) zero x y at = inr (λ same. omega arith, at)
get_set (z ∷ xs) (suc i) (suc p) x y at = elim (get_set xs i p x y at) [
  | inl here ↦ inl (ap suc here.0, here.1)
  | inr there ↦ inr (λ same. there.0 (omega arith), there.1)
]

-- one slot more
pub slots_kept : (xs : List Slot) (i : ℕ) (d new : Slot) → i < length xs → (IsSlot (get_or xs i d) → IsSlot new) → AreSlots xs → AreSlots (slice_set xs i new)
slots_kept xs i d new within kept are client slot at = elim (get_set xs i client new slot at) [
  | inl here ↦ subst IsSlot (sym here.1) (kept (are i (get_or xs i d) (slice_get-get_or xs i d within)))
  | inr there ↦ are client slot there.1
]

-- what holds of the first places of a list, and of one that is set behind them
pub each_more : {A : Type 0} (P : ℕ → A → Type 0) (xs : List A) (i : ℕ) (new : A) → P i new → ((place : ℕ) (x : A) → place < i → slice_get xs place ≡ Some x → P place x)
    → (place : ℕ) (x : A) → place < i + 1 → slice_get (slice_set xs i new) place ≡ Some x → P place x
each_more P xs i new now are place x below at = elim (get_set xs i place new x at) [
  | inl here ↦ subst (P place) (sym here.1) (subst (λ (n : ℕ). P n new) (sym here.0) now)
  | inr there ↦ (let apart = there.0 in are place x (omega arith) there.1)
]

-- what holds of the first places of two lists, and of one that is set in the second
pub pair_more : {A B : Type 0} (P : ℕ → A → B → Type 0) (xs : List A) (ys : List B) (i : ℕ) (d : A) (new : B) → P i (get_or xs i d) new
    → ((place : ℕ) (x : A) (y : B) → place < i → slice_get xs place ≡ Some x → slice_get ys place ≡ Some y → P place x y)
    → (place : ℕ) (x : A) (y : B) → place < i + 1 → slice_get xs place ≡ Some x → slice_get (slice_set ys i new) place ≡ Some y → P place x y
pair_more {A = A} P xs ys i d new now are place x y below at_x at_y = elim (get_set ys i place new y at_y) [
  | inl here ↦ (
      let same : get_or xs i d ≡ x = ap (λ (n : ℕ). get_or xs n d) (sym here.0) ∙ get_or_from_slice_get xs place x d at_x in
      subst (P place x) (sym here.1) (subst (λ (n : ℕ). P n x new) (sym here.0) (subst (λ (a : A). P i a new) same now)))
  | inr there ↦ (let apart = there.0 in are place x y (omega arith) at_x there.1)
]

-- each of the first slots and inodes stands in its sector
pub slots_stand : (s : List (List ℕ)) (slots : List Slot) (count : ℕ) → count ≤ length slots → AreSlotsRead s count slots → (client : ℕ) → client < count → HasSlot s client
slots_stand s slots count within read client below = record {
  slot = get_or slots client first_slot;
  spelled = read client _ below (slice_get-get_or slots client first_slot (omega arith));
}

pub inodes_stand : (s : List (List ℕ)) (inodes : List Inode) (count : ℕ) → count ≤ length inodes → MayAllStand count inodes → AreInodesRead s count inodes → (number : ℕ) → number < count → HasInode s number
inodes_stand s inodes count within stand read number below =
    let there = slice_get-get_or inodes number free_inode (omega arith) in
    record {
      inode = get_or inodes number free_inode;
      spelled = read number _ below there;
      root = (stand number _ below there).root;
    }

pub blocks_stand : (s : List (List ℕ)) (inodes : List Inode) (directories : List Slots) (count : ℕ) → count ≤ length inodes → count ≤ length directories → AreNodesRead s count inodes directories
    → (number : ℕ) → number < count → HasBlocks s number
blocks_stand s inodes directories count within too read number below = record {
  inode = get_or inodes number free_inode;
  slots = get_or directories number [];
  read = read number _ _ below (slice_get-get_or inodes number free_inode (omega arith)) (slice_get-get_or directories number [] (omega arith));
}

-- what the first inodes and their directories may be
abbrev pub AreNodesTo : ℕ → List Inode → List Slots → Type 0
AreNodesTo count inodes directories = (number : ℕ) (inode : Inode) (slots : Slots) → number < count → slice_get inodes number ≡ Some inode → slice_get directories number ≡ Some slots → IsNode number inode slots

pub nodes_all : (count : ℕ) (inodes : List Inode) (directories : List Slots) → length inodes ≤ count → AreNodesTo count inodes directories → AreNodes inodes directories
nodes_all count inodes directories all are number inode slots at there = are number inode slots (let within = slice_get_within inodes number inode at in omega arith) at there
