-- The inode of a file after a flush: an inode, that takes free blocks alone.
use Rattle.std.proofs.Common.{◌≡◌, ◌⊎◌, ◌≤◌, ◌<◌, ◌+◌, ◌-◌, ◌++◌, ℕ, zero, suc, true, List, [], ◌∷◌, length, take, replicate, Option, Some, None, slice_get, slice_index, refl, sym, ap, ◌∙◌, subst, inl, inr, arith, get_or, length-append}
use Rattle.cal_base.specs.Limits as limits
use Rattle.std.proofs.lemmas.Bool.{cases_lt}
use Rattle.std.proofs.lemmas.List.{length-replicate, length-take}
use Rattle.std.proofs.lemmas.Option.{slice_get_within}
use Rattle.inode.specs.Inode.{IsInode, KindAllows}
use Rattle.inode.specs.declared.inode.Inode.{Inode}
use Rattle.inode.specs.declared.inode.Kind.{Kind}
use Rattle.inode.specs.declared.inode.Kind.TheVariants.{File}
use Rattle.inode.proofs.InodeLemmas.{small_zeros}
use Rattle.cal_base.specs.Blocks.{block_count}
use Rattle.token_kind.specs.Flush.{IsFlush}
use Rattle.token_kind.specs.declared.flush.Flush.{Flush}
use Rattle.volume.specs.Stands.{AreBlocksKept, Points}
use Rattle.volume.specs.Volume.{Volume}
use Rattle.volume_edit.proofs.InodePointers.{free_unpointed, there_at}
use Rattle.volume_edit.specs.Blocks.{IsPointing}
use Rattle.volume_edit.specs.Edit.{HasSlots, IsInodeEdit, IsVolume, inode_at}
use Rattle.volume_edit.specs.declared.edit.InodeEdit.{InodeEdit}
use Rattle.volume_plan.proofs.FreeBlocks.{count_of_least, least_are_free}
use Rattle.volume_plan.proofs.Pieces.{IsPlaced, IsUnplaced, block_at, block_past, length-pointed_at, one_index, placed_or_not, pointer_at, pointer_by, rising_by}
use Rattle.volume_plan.specs.Flushing.{blocks_for, cut_pointers, flushed_inode}
use Rattle.volume_plan.specs.Plans.{free_count}

-- pointers that were cut: before the cut as they were, and holes from it on
pub cut_before : (count : ℕ) (pointers : List ℕ) (place : ℕ) → place < count → slice_index (cut_pointers count pointers) place ≡ slice_index pointers place
cut_before zero pointers place below = absurd (omega arith)
cut_before (suc count) [] place below = small_zeros (length {A = ℕ} [] - suc count) place
cut_before (suc count) (p ∷ ps) zero below = refl
cut_before (suc count) (p ∷ ps) (suc place) below =
    ap (λ (n : ℕ). get_or (take count ps ++ replicate {A = ℕ} n 0) place 0) (let e : length (p ∷ ps) - suc count ≡ length ps - count = omega arith in e) ∙ cut_before count ps place (omega arith)

pub cut_from : (count : ℕ) (pointers : List ℕ) (place : ℕ) → count ≤ place → slice_index (cut_pointers count pointers) place ≡ 0
cut_from zero pointers place past = small_zeros (length pointers - 0) place
cut_from (suc count) [] place past = small_zeros (length {A = ℕ} [] - suc count) place
cut_from (suc count) (p ∷ ps) zero past = absurd (omega arith)
cut_from (suc count) (p ∷ ps) (suc place) past =
    ap (λ (n : ℕ). get_or (take count ps ++ replicate {A = ℕ} n 0) place 0) (let e : length (p ∷ ps) - suc count ≡ length ps - count = omega arith in e) ∙ cut_from count ps place (omega arith)

length-cut_pointers : (count : ℕ) (pointers : List ℕ) → length (cut_pointers count pointers) ≡ length pointers
length-cut_pointers count pointers =
    let a = length-append (take count pointers) (replicate (length pointers - count) 0) in
    let b = length-take count pointers in
    let c = length-replicate {A = ℕ} (length pointers - count) 0 in
    omega arith

-- a flush of a file, for which there are blocks enough
pub record CanFlush (sectors : List (List ℕ)) (v : Volume) (flush : Flush) : Type 0 where
  pub count : length sectors ≡ limits.sectors
  pub volume : IsVolume v
  pub is : IsFlush flush
  pub file : (inode_at v.inodes flush.ino.0).kind ≡ File
  pub enough : length flush.pieces ≤ free_count v

abbrev pub old_of : Volume → Flush → Inode
old_of v flush = inode_at v.inodes flush.ino.0

abbrev pub new_of : Volume → Flush → Inode
new_of v flush = flushed_inode (old_of v flush) flush (blocks_for v flush)

-- a pointer is at the block of a piece, or as it was before the cut, or a hole
pub record IsAtPiece (sectors : List (List ℕ)) (v : Volume) (flush : Flush) (place : ℕ) : Type 0 where
  pub placed : IsPlaced v.free 0 sectors flush.pieces (blocks_for v flush) place
  pub names : slice_index (new_of v flush).blocks place ≡ placed.block + 1

pub record IsAsBefore (v : Volume) (flush : Flush) (place : ℕ) : Type 0 where
  pub unplaced : IsUnplaced flush.pieces (blocks_for v flush) place
  pub before : place < block_count flush.cut
  pub names : slice_index (new_of v flush).blocks place ≡ slice_index (old_of v flush).blocks place

pub record IsHole (v : Volume) (flush : Flush) (place : ℕ) : Type 0 where
  pub unplaced : IsUnplaced flush.pieces (blocks_for v flush) place
  pub from : block_count flush.cut ≤ place
  pub names : slice_index (new_of v flush).blocks place ≡ 0

pub there : (sectors : List (List ℕ)) (v : Volume) (flush : Flush) → CanFlush sectors v flush → slice_get v.inodes flush.ino.0 ≡ Some (old_of v flush)
there sectors v flush can = there_at v.inodes flush.ino.0 (let a = can.is.ino in let b = can.volume.inode_count in omega arith)

old_is : (sectors : List (List ℕ)) (v : Volume) (flush : Flush) → CanFlush sectors v flush → IsInode (old_of v flush)
old_is sectors v flush can = can.volume.inodes flush.ino.0 (old_of v flush) (there sectors v flush can)

names_at : (sectors : List (List ℕ)) (v : Volume) (flush : Flush) (place : ℕ) → CanFlush sectors v flush
    → slice_index (new_of v flush).blocks place ≡ pointer_by (block_at flush.pieces (blocks_for v flush) place) (slice_index (cut_pointers (block_count flush.cut) (old_of v flush).blocks) place)
names_at sectors v flush place can =
    pointer_at 0 (block_count flush.size) (cut_pointers (block_count flush.cut) (old_of v flush).blocks) flush.pieces (blocks_for v flush) place
    (rising_by 0 (block_count flush.size) flush.pieces can.is.rising)
    (let l = length-cut_pointers (block_count flush.cut) (old_of v flush).blocks in let c = (old_is sectors v flush can).count in let s = can.is.size in omega (arith, l, c, s))

pub pointer_cases : (sectors : List (List ℕ)) (v : Volume) (flush : Flush) (place : ℕ) → CanFlush sectors v flush
    → IsAtPiece sectors v flush place ⊎ (IsAsBefore v flush place ⊎ IsHole v flush place)
pointer_cases sectors v flush place can =
    let names = names_at sectors v flush place can in
    elim (placed_or_not v.free 0 sectors flush.pieces (blocks_for v flush) place (count_of_least v.free (length flush.pieces) can.enough) (least_are_free v.free (length flush.pieces)) (let a = can.count in let b = can.volume.map in omega (arith, a, b))) [
      | inl placed ↦ inl (record { placed = placed; names = names ∙ ap (λ (o : Option ℕ). pointer_by o (slice_index (cut_pointers (block_count flush.cut) (old_of v flush).blocks) place)) placed.at })
      | inr none ↦ inr (by_cut (cases_lt place (block_count flush.cut)) none (names ∙ ap (λ (o : Option ℕ). pointer_by o (slice_index (cut_pointers (block_count flush.cut) (old_of v flush).blocks) place)) none.at))
    ]
  where
    by_cut : (place < block_count flush.cut) ⊎ (block_count flush.cut ≤ place) → IsUnplaced flush.pieces (blocks_for v flush) place → slice_index (new_of v flush).blocks place ≡ slice_index (cut_pointers (block_count flush.cut) (old_of v flush).blocks) place
        → IsAsBefore v flush place ⊎ IsHole v flush place
    by_cut (inl before) none names = inl (record { unplaced = none; before = before; names = names ∙ cut_before (block_count flush.cut) (old_of v flush).blocks place before })
    by_cut (inr from) none names = inr (record { unplaced = none; from = from; names = names ∙ cut_from (block_count flush.cut) (old_of v flush).blocks place from })

small : (sectors : List (List ℕ)) (v : Volume) (flush : Flush) (place : ℕ) → CanFlush sectors v flush → slice_index (new_of v flush).blocks place ≤ 2048
small sectors v flush place can = elim (pointer_cases sectors v flush place can) [
  | inl at ↦ (let h = slice_get_within v.free at.placed.block true at.placed.free_before in let m = can.volume.map in let n = at.names in omega (arith, h, m, n))
  | inr other ↦ elim other [
    | inl before ↦ (let h = (old_is sectors v flush can).pointers place in let n = before.names in omega (arith, h, n))
    | inr hole ↦ (let n = hole.names in omega (arith, n))
  ]
]

holes : (sectors : List (List ℕ)) (v : Volume) (flush : Flush) (place : ℕ) → CanFlush sectors v flush → block_count flush.size ≤ place → slice_index (new_of v flush).blocks place ≡ 0
holes sectors v flush place can past = elim (pointer_cases sectors v flush place can) [
  | inl at ↦ (let both : None ≡ Some at.placed.block = sym (block_past 0 (block_count flush.size) flush.pieces (blocks_for v flush) place (rising_by 0 (block_count flush.size) flush.pieces can.is.rising) past) ∙ at.placed.at in absurd (cc))
  | inr other ↦ elim other [
    | inl before ↦ (let h = before.before in let c = can.is.cut in absurd (omega (arith, h, c, past)))
    | inr hole ↦ hole.names
  ]
]

pub flushed_is : (sectors : List (List ℕ)) (v : Volume) (flush : Flush) → CanFlush sectors v flush → IsInode (new_of v flush)
flushed_is sectors v flush can = record {
  count = length-pointed_at (cut_pointers (block_count flush.cut) (old_of v flush).blocks) flush.pieces (blocks_for v flush) ∙ length-cut_pointers (block_count flush.cut) (old_of v flush).blocks ∙ (old_is sectors v flush can).count;
  pointers = λ place. small sectors v flush place can;
  allowed = subst (λ (k : Kind). KindAllows k (new_of v flush)) (sym can.file) (record { size = can.is.size; holes = λ place past. holes sectors v flush place can past });
}

-- each pointer is one of before, or at a free block
known : (sectors : List (List ℕ)) (v : Volume) (flush : Flush) (place block : ℕ) → CanFlush sectors v flush → slice_index (new_of v flush).blocks place ≡ block + 1
    → (slice_index (old_of v flush).blocks place ≡ block + 1) ⊎ (slice_get v.free block ≡ Some true)
known sectors v flush place block can names = elim (pointer_cases sectors v flush place can) [
  | inl at ↦ inr (ap (slice_get v.free) (let n = at.names in let e : block ≡ at.placed.block = omega (arith, n, names) in e) ∙ at.placed.free_before)
  | inr other ↦ elim other [
    | inl before ↦ inl (sym before.names ∙ names)
    | inr hole ↦ (let n = hole.names in absurd (omega (arith, n, names)))
  ]
]

apart : (sectors : List (List ℕ)) (v : Volume) (flush : Flush) (place other block : ℕ) → CanFlush sectors v flush → AreBlocksKept v → slice_index (new_of v flush).blocks place ≡ block + 1 → slice_index (new_of v flush).blocks other ≡ block + 1 → place ≡ other
apart sectors v flush place other block can kept a b = elim (pointer_cases sectors v flush place can) [
  | inl first ↦ elim (pointer_cases sectors v flush other can) [
    | inl second ↦ one_index v.free 0 flush.pieces (blocks_for v flush) place other block (least_are_free v.free (length flush.pieces)) (at_block place a first) (at_block other b second)
    | inr rest ↦ absurd (mixed place other a b first rest)
  ]
  | inr first ↦ elim (pointer_cases sectors v flush other can) [
    | inl second ↦ absurd (mixed other place b a second first)
    | inr second ↦ (kept.apart flush.ino.0 flush.ino.0 place other block (stood place a first) (stood other b second)).1
  ]
]
  where
    at_block : (k : ℕ) → slice_index (new_of v flush).blocks k ≡ block + 1 → IsAtPiece sectors v flush k → block_at flush.pieces (blocks_for v flush) k ≡ Some block
    at_block k names at = at.placed.at ∙ ap (λ (n : ℕ). Some n) (let n = at.names in let e : at.placed.block ≡ block = omega (arith, n, names) in e)

    stood : (k : ℕ) → slice_index (new_of v flush).blocks k ≡ block + 1 → IsAsBefore v flush k ⊎ IsHole v flush k → Points v.inodes flush.ino.0 k block
    stood k names (inl before) = record { inode = old_of v flush; there = there sectors v flush can; names = sym before.names ∙ names }
    stood k names (inr hole) = (let n = hole.names in absurd (omega (arith, n, names)))

    mixed : (k l : ℕ) → slice_index (new_of v flush).blocks k ≡ block + 1 → slice_index (new_of v flush).blocks l ≡ block + 1 → IsAtPiece sectors v flush k → IsAsBefore v flush l ⊎ IsHole v flush l → ⊥
    mixed k l c d at rest = free_unpointed v.free v.inodes can.volume.map (record { used = kept.used; apart = kept.apart }) flush.ino.0 l block (stood l d rest)
        (ap (slice_get v.free) (let n = at.names in let e : block ≡ at.placed.block = omega (arith, n, c) in e) ∙ at.placed.free_before)

abbrev pub inode_edit_of : Volume → Flush → InodeEdit
inode_edit_of v flush = record { ino = flush.ino; inode = new_of v flush }

pub flush_points : (sectors : List (List ℕ)) (v : Volume) (flush : Flush) → CanFlush sectors v flush → AreBlocksKept v → IsPointing v (inode_edit_of v flush)
flush_points sectors v flush can kept = record {
  known = λ place block names. known sectors v flush place block can names;
  apart = λ place other block a b. apart sectors v flush place other block can kept a b;
}

pub flush_edits : (sectors : List (List ℕ)) (v : Volume) (flush : Flush) → CanFlush sectors v flush → 1 ≤ flush.ino.0 → IsInodeEdit (inode_edit_of v flush)
flush_edits sectors v flush can from_one = record {
  from_one = from_one;
  to_511 = (let h = can.is.ino in omega arith);
  inode = flushed_is sectors v flush can;
  empty = subst (λ (k : Kind). HasSlots k (new_of v flush) []) (sym can.file) refl;
}
