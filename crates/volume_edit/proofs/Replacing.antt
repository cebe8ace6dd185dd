-- An inode that takes free blocks in place of another one keeps the map.
use Rattle.std.proofs.Common.{◌≡◌, ◌≢◌, ◌⊎◌, ◌<◌, ◌+◌, ℕ, Bool, true, false, List, length, Some, slice_get, slice_index, sym, ◌∙◌, subst, inl, inr, arith}
use Rattle.cal_base.specs.Limits as limits
use Rattle.std.specs.List.{slice_set}
use Rattle.std.proofs.lemmas.Bool.{cases_eq}
use Rattle.std.proofs.lemmas.Option.{slice_get_within}
use Rattle.inode.specs.declared.inode.Inode.{Inode}
use Rattle.volume.specs.Stands.{IsPointed, Points}
use Rattle.volume_edit.proofs.Marked.{NamesNot, length-marked_all, marked_apart, marked_named, names_or_not}
use Rattle.volume_edit.specs.Edit.{marked_all}
use Rattle.volume_edit.proofs.InodePointers.{AreKept, free_unpointed, names_by, names_new, points_before, points_by, points_new, points_other}

-- what the pointers of a new inode name: what the old one's named at that place, or a free block
pub record TakesFreeBlocks (free : List Bool) (old new : Inode) : Type 0 where
  pub known : (place block : ℕ) → slice_index new.blocks place ≡ block + 1 → (slice_index old.blocks place ≡ block + 1) ⊎ (slice_get free block ≡ Some true)
  pub apart : (place other block : ℕ) → slice_index new.blocks place ≡ block + 1 → slice_index new.blocks other ≡ block + 1 → place ≡ other

abbrev remarked : List Bool → Inode → Inode → List Bool
remarked free old new = marked_all false (marked_all true free old.blocks) new.blocks

length-remarked : (free : List Bool) (old new : Inode) → length (marked_all true free old.blocks) ≡ length free
length-remarked free old new = length-marked_all true old.blocks free

-- an inode's blocks are free, and then those of the one in its place are in use
inode_used : (free : List Bool) (inodes : List Inode) (ino : ℕ) (old new : Inode) → length free ≡ limits.blocks → slice_get inodes ino ≡ Some old → AreKept free inodes
    → (block : ℕ) → block < limits.blocks → slice_get (remarked free old new) block ≡ Some false → IsPointed (slice_set inodes ino new) block
inode_used free inodes ino old new long there kept block below e = elim (names_or_not new.blocks block) [
  | inl n ↦ record { number = ino; place = n.place; points = points_new inodes ino new n.place block (slice_get_within inodes ino old there) n.names }
  | inr none ↦ by_old (sym (marked_apart false new.blocks (marked_all true free old.blocks) block none) ∙ e)
]
  where
    by_before : NamesNot old.blocks block → IsPointed inodes block → IsPointed (slice_set inodes ino new) block
    by_before none p = elim (cases_eq p.number ino) [
      | inl same ↦ absurd (none p.place (names_by inodes ino p.place block old there (subst (λ (n : ℕ). Points inodes n p.place block) same p.points)))
      | inr apart ↦ record { number = p.number; place = p.place; points = points_other inodes ino new p.number p.place block apart p.points }
    ]

    by_old : slice_get (marked_all true free old.blocks) block ≡ Some false → IsPointed (slice_set inodes ino new) block
    by_old f = elim (names_or_not old.blocks block) [
      | inl n ↦ (let t : slice_get (marked_all true free old.blocks) block ≡ Some true = marked_named true old.blocks free block n.place n.names (omega arith) in let both : Some true ≡ Some false = sym t ∙ f in absurd (cc))
      | inr none ↦ by_before none ((kept.used block below).0 (sym (marked_apart true old.blocks free block none) ∙ f))
    ]

inode_pointed : (free : List Bool) (inodes : List Inode) (ino : ℕ) (old new : Inode) → length free ≡ limits.blocks → slice_get inodes ino ≡ Some old → AreKept free inodes
    → (block number place : ℕ) → block < limits.blocks → Points (slice_set inodes ino new) number place block → slice_get (remarked free old new) block ≡ Some false
inode_pointed free inodes ino old new long there kept block number place below p = elim (names_or_not new.blocks block) [
  | inl n ↦ marked_named false new.blocks (marked_all true free old.blocks) block n.place n.names (let l = length-remarked free old new in omega arith)
  | inr none ↦ elim (cases_eq number ino) [
    | inl same ↦ absurd (none place (names_new inodes ino new number place block (slice_get_within inodes ino old there) same p))
    | inr apart ↦ marked_apart false new.blocks (marked_all true free old.blocks) block none ∙ other apart (points_before inodes ino new number place block apart p)
  ]
]
  where
    other : number ≢ ino → Points inodes number place block → slice_get (marked_all true free old.blocks) block ≡ Some false
    other apart before = elim (names_or_not old.blocks block) [
      | inl n ↦ absurd (apart (kept.apart number ino place n.place block before (points_by inodes ino n.place block old there n.names)).0)
      | inr none ↦ marked_apart true old.blocks free block none ∙ (kept.used block below).1 (record { number = number; place = place; points = before })
    ]

inode_apart : (free : List Bool) (inodes : List Inode) (ino : ℕ) (old new : Inode) → length free ≡ limits.blocks → slice_get inodes ino ≡ Some old → AreKept free inodes → TakesFreeBlocks free old new
    → (i j p q block : ℕ) → Points (slice_set inodes ino new) i p block → Points (slice_set inodes ino new) j q block → (i ≡ j) × (p ≡ q)
inode_apart free inodes ino old new long there kept takes i j p q block a b = elim (cases_eq i ino) [
  | inl first ↦ elim (cases_eq j ino) [
    | inl second ↦ (first ∙ sym second, takes.apart p q block (names_new inodes ino new i p block within first a) (names_new inodes ino new j q block within second b))
    | inr second ↦ absurd (mixed j p q second (names_new inodes ino new i p block within first a) (points_before inodes ino new j q block second b))
  ]
  | inr first ↦ elim (cases_eq j ino) [
    | inl second ↦ absurd (mixed i q p first (names_new inodes ino new j q block within second b) (points_before inodes ino new i p block first a))
    | inr second ↦ kept.apart i j p q block (points_before inodes ino new i p block first a) (points_before inodes ino new j q block second b)
  ]
]
  where
    within : ino < length inodes
    within = slice_get_within inodes ino old there

    mixed : (number place other : ℕ) → number ≢ ino → slice_index new.blocks place ≡ block + 1 → Points inodes number other block → ⊥
    mixed number place other far names p = elim (takes.known place block names) [
      | inl stood ↦ far (kept.apart number ino other place block p (points_by inodes ino place block old there stood)).0
      | inr is_free ↦ free_unpointed free inodes long kept number other block p is_free
    ]

pub inode_kept : (free : List Bool) (inodes : List Inode) (ino : ℕ) (old new : Inode) → length free ≡ limits.blocks → slice_get inodes ino ≡ Some old → AreKept free inodes → TakesFreeBlocks free old new
    → AreKept (marked_all false (marked_all true free old.blocks) new.blocks) (slice_set inodes ino new)
inode_kept free inodes ino old new long there kept takes = record {
  used = λ block below. (
    (λ e. inode_used free inodes ino old new long there kept block below e),
    (λ p. inode_pointed free inodes ino old new long there kept block p.number p.place below p.points),
  );
  apart = λ i j p q block a b. inode_apart free inodes ino old new long there kept takes i j p q block a b;
}
