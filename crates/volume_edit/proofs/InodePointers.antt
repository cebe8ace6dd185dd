-- The pointers of inodes where one of them is set.
use Rattle.std.proofs.Common.{◌≡◌, ◌≢◌, ◌↔◌, ◌<◌, ◌+◌, ℕ, Bool, true, false, List, length, Some, slice_get, slice_index, sym, ◌∙◌, subst, arith}
use Rattle.cal_base.specs.Limits as limits
use Rattle.std.specs.List.{slice_set}
use Rattle.std.proofs.lemmas.Option.{slice_get-get_or, slice_get_within}
use Rattle.inode.specs.declared.inode.Inode.{Inode}
use Rattle.volume.specs.Stands.{IsPointed, Points}
use Rattle.volume_edit.proofs.Marked.{get_set_other, get_set_same}
use Rattle.volume_edit.specs.Edit.{free_inode, inode_at}

-- the same of a map and inodes alone
pub record AreKept (free : List Bool) (inodes : List Inode) : Type 0 where
  pub used : (block : ℕ) → block < limits.blocks → (slice_get free block ≡ Some false) ↔ IsPointed inodes block
  pub apart : (i j p q block : ℕ) → Points inodes i p block → Points inodes j q block → (i ≡ j) × (p ≡ q)

-- what stands at a number is one inode
pub same_there : (inodes : List Inode) (number : ℕ) (a b : Inode) → slice_get inodes number ≡ Some a → slice_get inodes number ≡ Some b → a ≡ b
same_there inodes number a b p q = (let both : Some a ≡ Some b = sym p ∙ q in cc)

pub there_at : (inodes : List Inode) (number : ℕ) → number < length inodes → slice_get inodes number ≡ Some (inode_at inodes number)
there_at inodes number below = slice_get-get_or inodes number free_inode below

-- a pointer of the inode at a number, by the inode there
pub points_by : (inodes : List Inode) (number place block : ℕ) (inode : Inode) → slice_get inodes number ≡ Some inode → slice_index inode.blocks place ≡ block + 1 → Points inodes number place block
points_by inodes number place block inode there names = record { inode = inode; there = there; names = names }

pub names_by : (inodes : List Inode) (number place block : ℕ) (inode : Inode) → slice_get inodes number ≡ Some inode → Points inodes number place block → slice_index inode.blocks place ≡ block + 1
names_by inodes number place block inode there p = subst (λ (i : Inode). slice_index i.blocks place ≡ block + 1) (same_there inodes number p.inode inode p.there there) p.names

-- pointers of another inode, where one inode is set
pub points_other : (inodes : List Inode) (ino : ℕ) (new : Inode) (number place block : ℕ) → number ≢ ino → Points inodes number place block → Points (slice_set inodes ino new) number place block
points_other inodes ino new number place block apart p = record { inode = p.inode; there = get_set_other inodes ino number new apart ∙ p.there; names = p.names }

pub points_before : (inodes : List Inode) (ino : ℕ) (new : Inode) (number place block : ℕ) → number ≢ ino → Points (slice_set inodes ino new) number place block → Points inodes number place block
points_before inodes ino new number place block apart p = record { inode = p.inode; there = sym (get_set_other inodes ino number new apart) ∙ p.there; names = p.names }

-- pointers of the inode that is set
pub points_new : (inodes : List Inode) (ino : ℕ) (new : Inode) (place block : ℕ) → ino < length inodes → slice_index new.blocks place ≡ block + 1 → Points (slice_set inodes ino new) ino place block
points_new inodes ino new place block below names = points_by (slice_set inodes ino new) ino place block new (get_set_same inodes ino new below) names

pub names_new : (inodes : List Inode) (ino : ℕ) (new : Inode) (number place block : ℕ) → ino < length inodes → number ≡ ino → Points (slice_set inodes ino new) number place block → slice_index new.blocks place ≡ block + 1
names_new inodes ino new number place block below same p =
    names_by (slice_set inodes ino new) ino place block new (get_set_same inodes ino new below) (subst (λ (n : ℕ). Points (slice_set inodes ino new) n place block) same p)

-- no pointer names a free block
pub free_unpointed : (free : List Bool) (inodes : List Inode) → length free ≡ limits.blocks → AreKept free inodes → (number place block : ℕ) → Points inodes number place block → slice_get free block ≡ Some true → ⊥
free_unpointed free inodes long kept number place block p e =
    let below = slice_get_within free block true e in
    let used : slice_get free block ≡ Some false = (kept.used block (omega arith)).1 (record { number = number; place = place; points = p }) in
    let both : Some true ≡ Some false = sym e ∙ used in
    cc
