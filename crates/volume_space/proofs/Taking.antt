-- The free blocks that a flush takes, and that an inode takes which loses its name.
use Rattle.std.proofs.Common.{◌≡◌, ◌⊎◌, ◌≤◌, ◌+◌, ℕ, zero, suc, true, List, [], ◌∷◌, length, map, Some, slice_get, slice_index, slice_set, sym, ap, ◌∙◌, inl, inr, arith}
use Rattle.std.proofs.lemmas.Bool.{cases_lt}
use Rattle.std.proofs.lemmas.List.{length-map, length-take}
use Rattle.cal_base.specs.Blocks.{block_count}
use Rattle.cal_base.specs.declared.identity.ClientId.{ClientId}
use Rattle.cal_base.specs.declared.identity.Ino.{Ino}
use Rattle.inode.specs.declared.inode.Inode.{Inode}
use Rattle.token_kind.specs.declared.flush.Flush.{Flush}
use Rattle.volume.specs.Stands.{AreBlocksKept}
use Rattle.volume.specs.Volume.{Volume}
use Rattle.volume_edit.proofs.InodePointers.{free_unpointed, points_by, there_at}
use Rattle.volume_edit.proofs.Marked.{NamesBlock}
use Rattle.volume_edit.specs.Edit.{IsVolume, edited, free_inode, free_with_inode, inode_at}
use Rattle.volume_plan.proofs.EditParts.{get_past}
use Rattle.volume_plan.proofs.FlushedInode.{cut_before, cut_from}
use Rattle.volume_plan.proofs.Gone.{nameless_points}
use Rattle.volume_plan.proofs.Reaping.{names_none}
use Rattle.volume_plan.specs.Flushing.{blocks_for, cut_pointers, flush_of, free_from, pointed_at}
use Rattle.volume_plan.specs.Plans.{free_count, inode_gone, is_opened}
use Rattle.volume_space.proofs.Counts.{free_in, none_taken, pointers_take}

-- a block that a pointer of an inode names isn't free
pub none_free : (v : Volume) (number block place : ℕ) → IsVolume v → AreBlocksKept v → slice_get v.free block ≡ Some true → slice_index (inode_at v.inodes number).blocks place ≡ block + 1 → ⊥
none_free v number block place is kept is_free names = elim (cases_lt number (length v.inodes)) [
  | inl below ↦ free_unpointed v.free v.inodes is.map (record { used = kept.used; apart = kept.apart }) number place block
      (points_by v.inodes number place block (inode_at v.inodes number) (there_at v.inodes number below) names) is_free
  | inr past ↦ names_none place block (sym (ap (λ (inode : Inode). slice_index inode.blocks place) (get_past v.inodes number free_inode past)) ∙ names)
]

-- an inode that loses its last name takes no free block
pub gone_takes_none : (v : Volume) (opened : List Ino) (ino : Ino) → IsVolume v → AreBlocksKept v → free_count v ≤ free_in (free_with_inode v.free v.inodes (Some (inode_gone v opened ino)))
gone_takes_none v opened ino is kept =
    let old : Inode = inode_at v.inodes ino.0 in
    none_taken v.free old.blocks (inode_gone v opened ino).inode.blocks
    (λ block place is_free names. none_free v ino.0 block place is kept is_free (nameless_points old.kind old (is_opened opened ino) place block names))

-- a place that is set holds what it held, or what was set
set_known : (pointers : List ℕ) (at place pointer block : ℕ) → slice_index (slice_set pointers at pointer) place ≡ block + 1 → (slice_index pointers place ≡ block + 1) ⊎ (pointer ≡ block + 1)
set_known [] at place pointer block names = inl names
set_known (p ∷ ps) zero zero pointer block names = inr names
set_known (p ∷ ps) zero (suc place) pointer block names = inl names
set_known (p ∷ ps) (suc at) zero pointer block names = inl names
set_known (p ∷ ps) (suc at) (suc place) pointer block names = set_known ps at place pointer block names

-- the pointers at some blocks
abbrev pub pointers_at : List ℕ → List ℕ
pointers_at blocks = map (λ (block : ℕ). block + 1) blocks

-- a pointer after a flush's pieces were placed is one of before, or at one of their blocks
placed_known : (pieces : List (ℕ × List ℕ)) (blocks pointers : List ℕ) (place block : ℕ) → slice_index (pointed_at pointers pieces blocks) place ≡ block + 1 → (slice_index pointers place ≡ block + 1) ⊎ NamesBlock (pointers_at blocks) block
placed_known [] blocks pointers place block names = inl names
placed_known (piece ∷ pieces) [] pointers place block names = inl names
placed_known (piece ∷ pieces) (first ∷ blocks) pointers place block names = elim (placed_known pieces blocks (slice_set pointers piece.0 (first + 1)) place block names) [
  | inl set ↦ elim (set_known pointers piece.0 place (first + 1) block set) [
    | inl before ↦ inl before
    | inr same ↦ inr (record { place = 0; names = same })
  ]
  | inr n ↦ inr (record { place = suc n.place; names = n.names })
]

-- a pointer of before the cut stood before
cut_known : (count : ℕ) (pointers : List ℕ) (place block : ℕ) → slice_index (cut_pointers count pointers) place ≡ block + 1 → slice_index pointers place ≡ block + 1
cut_known count pointers place block names = elim (cases_lt place count) [
  | inl before ↦ sym (cut_before count pointers place before) ∙ names
  | inr from ↦ (let hole = cut_from count pointers place from in absurd (omega (arith, hole, names)))
]

-- a flush takes one free block for each of its pieces, at most
pub flush_takes_pieces : (v : Volume) (client : ClientId) (flush : Flush) → IsVolume v → AreBlocksKept v → free_count v ≤ free_count (edited v (flush_of v client flush)) + length flush.pieces
flush_takes_pieces v client flush is kept =
    let old : Inode = inode_at v.inodes flush.ino.0 in
    let blocks : List ℕ = blocks_for v flush in
    let most = pointers_take v.free old.blocks (pointed_at (cut_pointers (block_count flush.cut) old.blocks) flush.pieces blocks) (pointers_at blocks) (λ block place is_free names. among block place is_free (placed_known flush.pieces blocks (cut_pointers (block_count flush.cut) old.blocks) place block names)) in
    let same = length-map blocks (λ (block : ℕ). block + 1) in
    let few = length-take (length flush.pieces) (free_from 0 v.free) in
    omega (arith, most, same, few)
  where
    among : (block place : ℕ) → slice_get v.free block ≡ Some true → (slice_index (cut_pointers (block_count flush.cut) (inode_at v.inodes flush.ino.0).blocks) place ≡ block + 1) ⊎ NamesBlock (pointers_at (blocks_for v flush)) block → NamesBlock (pointers_at (blocks_for v flush)) block
    among block place is_free (inl before) = absurd (none_free v flush.ino.0 block place is kept is_free (cut_known (block_count flush.cut) (inode_at v.inodes flush.ino.0).blocks place block before))
    among block place is_free (inr named) = named
