-- A directory that gets a free block keeps the map.
use Rattle.std.proofs.Common.{◌≡◌, ◌⊎◌, ◌<◌, ◌+◌, ◌/◌, ℕ, Bool, true, false, List, length, Some, slice_get, slice_index, sym, ap, ◌∙◌, subst, inl, inr, arith}
use Rattle.cal_base.specs.Limits as limits
use Rattle.std.specs.List.{slice_set}
use Rattle.std.proofs.lemmas.Bool.{cases_eq}
use Rattle.std.proofs.lemmas.List.{get_or-set_other, get_or-set_same}
use Rattle.std.proofs.lemmas.Option.{slice_get_within}
use Rattle.inode.specs.declared.inode.Inode.{Inode}
use Rattle.volume.specs.Stands.{IsPointed, Points}
use Rattle.volume_edit.proofs.Marked.{get_set_other, get_set_same}
use Rattle.volume_edit.proofs.InodePointers.{AreKept, free_unpointed, names_by, names_new, points_before, points_new, points_other}
use Rattle.volume_edit.specs.Edit.{grown_inode}

-- a directory's inode has a hole behind its blocks
pub record HasRoom (inode : Inode) : Type 0 where
  pub within : inode.size / 4096 < length inode.blocks
  pub hole : slice_index inode.blocks (inode.size / 4096) ≡ 0

-- a pointer of the grown inodes is one of before, or the one at the new block
pub record IsGrownAt (directory : ℕ) (old : Inode) (block number place other : ℕ) : Type 0 where
  pub is_directory : number ≡ directory
  pub is_place : place ≡ old.size / 4096
  pub is_block : other ≡ block

grown_names : (old : Inode) (block place other : ℕ) → HasRoom old → slice_index (grown_inode old block).blocks place ≡ other + 1
    → (slice_index old.blocks place ≡ other + 1) ⊎ ((place ≡ old.size / 4096) × (other ≡ block))
grown_names old block place other room names = elim (cases_eq place (old.size / 4096)) [
  | inl here ↦ (let e : block + 1 ≡ other + 1 = sym (get_or-set_same old.blocks (old.size / 4096) (block + 1) 0 room.within) ∙ subst (λ (n : ℕ). slice_index (grown_inode old block).blocks n ≡ other + 1) here names in inr (here, omega arith))
  | inr apart ↦ inl (sym (get_or-set_other old.blocks (old.size / 4096) place (block + 1) 0 apart) ∙ names)
]

-- a pointer of before stays
grown_keeps : (old : Inode) (block place other : ℕ) → HasRoom old → slice_index old.blocks place ≡ other + 1 → slice_index (grown_inode old block).blocks place ≡ other + 1
grown_keeps old block place other room names =
    get_or-set_other old.blocks (old.size / 4096) place (block + 1) 0 (λ (same : place ≡ old.size / 4096). (let h = room.hole in let n = subst (λ (k : ℕ). slice_index old.blocks k ≡ other + 1) same names in omega (arith, h, n))) ∙ names

points_grown : (inodes : List Inode) (directory : ℕ) (old : Inode) (block number place other : ℕ) → slice_get inodes directory ≡ Some old → HasRoom old
    → Points (slice_set inodes directory (grown_inode old block)) number place other → Points inodes number place other ⊎ IsGrownAt directory old block number place other
points_grown inodes directory old block number place other there room p = elim (cases_eq number directory) [
  | inr apart ↦ inl (points_before inodes directory (grown_inode old block) number place other apart p)
  | inl same ↦ elim (grown_names old block place other room (names_new inodes directory (grown_inode old block) number place other (slice_get_within inodes directory old there) same p)) [
    | inl stood ↦ inl (subst (λ (n : ℕ). Points inodes n place other) (sym same) (record { inode = old; there = there; names = stood }))
    | inr new ↦ inr (record { is_directory = same; is_place = new.0; is_block = new.1 })
  ]
]

points_stay : (inodes : List Inode) (directory : ℕ) (old : Inode) (block number place other : ℕ) → slice_get inodes directory ≡ Some old → HasRoom old
    → Points inodes number place other → Points (slice_set inodes directory (grown_inode old block)) number place other
points_stay inodes directory old block number place other there room p = elim (cases_eq number directory) [
  | inr apart ↦ points_other inodes directory (grown_inode old block) number place other apart p
  | inl same ↦ subst (λ (n : ℕ). Points (slice_set inodes directory (grown_inode old block)) n place other) (sym same)
      (points_new inodes directory (grown_inode old block) place other (slice_get_within inodes directory old there)
      (grown_keeps old block place other room (names_by inodes directory place other old there (subst (λ (n : ℕ). Points inodes n place other) same p))))
]

points_at_new : (inodes : List Inode) (directory : ℕ) (old : Inode) (block : ℕ) → slice_get inodes directory ≡ Some old → HasRoom old
    → Points (slice_set inodes directory (grown_inode old block)) directory (old.size / 4096) block
points_at_new inodes directory old block there room =
    points_new inodes directory (grown_inode old block) (old.size / 4096) block (slice_get_within inodes directory old there) (get_or-set_same old.blocks (old.size / 4096) (block + 1) 0 room.within)

grown_used : (free : List Bool) (inodes : List Inode) (directory : ℕ) (old : Inode) (block : ℕ) → slice_get inodes directory ≡ Some old → HasRoom old → AreKept free inodes
    → (other : ℕ) → other < limits.blocks → slice_get (slice_set free block false) other ≡ Some false → IsPointed (slice_set inodes directory (grown_inode old block)) other
grown_used free inodes directory old block there room kept other below e = elim (cases_eq other block) [
  | inl same ↦ record { number = directory; place = old.size / 4096; points = subst (λ (b : ℕ). Points (slice_set inodes directory (grown_inode old block)) directory (old.size / 4096) b) (sym same) (points_at_new inodes directory old block there room) }
  | inr apart ↦ (let p = (kept.used other below).0 (sym (get_set_other free block other false apart) ∙ e) in
      record { number = p.number; place = p.place; points = points_stay inodes directory old block p.number p.place other there room p.points })
]

grown_pointed : (free : List Bool) (inodes : List Inode) (directory : ℕ) (old : Inode) (block : ℕ) → slice_get inodes directory ≡ Some old → HasRoom old → AreKept free inodes → slice_get free block ≡ Some true
    → (number place other : ℕ) → other < limits.blocks → Points (slice_set inodes directory (grown_inode old block)) number place other → slice_get (slice_set free block false) other ≡ Some false
grown_pointed free inodes directory old block there room kept is_free number place other below p = elim (points_grown inodes directory old block number place other there room p) [
  | inl stood ↦ (let used : slice_get free other ≡ Some false = (kept.used other below).1 (record { number = number; place = place; points = stood }) in
      get_set_other free block other false (λ (same : other ≡ block). (let both : Some true ≡ Some false = sym is_free ∙ ap (slice_get free) (sym same) ∙ used in cc)) ∙ used)
  | inr new ↦ subst (λ (b : ℕ). slice_get (slice_set free block false) b ≡ Some false) (sym new.is_block) (get_set_same free block false (slice_get_within free block true is_free))
]

grown_apart : (free : List Bool) (inodes : List Inode) (directory : ℕ) (old : Inode) (block : ℕ) → length free ≡ limits.blocks → slice_get inodes directory ≡ Some old → HasRoom old → AreKept free inodes → slice_get free block ≡ Some true
    → (i j p q other : ℕ) → Points (slice_set inodes directory (grown_inode old block)) i p other → Points (slice_set inodes directory (grown_inode old block)) j q other → (i ≡ j) × (p ≡ q)
grown_apart free inodes directory old block long there room kept is_free i j p q other a b = elim (points_grown inodes directory old block i p other there room a) [
  | inl first ↦ elim (points_grown inodes directory old block j q other there room b) [
    | inl second ↦ kept.apart i j p q other first second
    | inr second ↦ absurd (free_unpointed free inodes long kept i p other first (ap (slice_get free) second.is_block ∙ is_free))
  ]
  | inr first ↦ elim (points_grown inodes directory old block j q other there room b) [
    | inl second ↦ absurd (free_unpointed free inodes long kept j q other second (ap (slice_get free) first.is_block ∙ is_free))
    | inr second ↦ (first.is_directory ∙ sym second.is_directory, first.is_place ∙ sym second.is_place)
  ]
]

pub grown_kept : (free : List Bool) (inodes : List Inode) (directory : ℕ) (old : Inode) (block : ℕ) → length free ≡ limits.blocks → slice_get inodes directory ≡ Some old → HasRoom old → AreKept free inodes → slice_get free block ≡ Some true
    → AreKept (slice_set free block false) (slice_set inodes directory (grown_inode old block))
grown_kept free inodes directory old block long there room kept is_free = record {
  used = λ other below. (
    (λ e. grown_used free inodes directory old block there room kept other below e),
    (λ p. grown_pointed free inodes directory old block there room kept is_free p.number p.place other below p.points),
  );
  apart = λ i j p q other a b. grown_apart free inodes directory old block long there room kept is_free i j p q other a b;
}
