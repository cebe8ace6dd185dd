-- The bytes of a file after a flush: those of its pieces, and what is kept of it before the cut.
use Rattle.std.proofs.Common.{◌≡◌, ◌≤◌, ◌+◌, ◌/◌, ◌%◌, ℕ, suc, nat_eq, nat_lt, List, [], ◌∷◌, length, Option, slice_index, refl, sym, ap, ◌∙◌, inl, inr, arith}
use Rattle.std.proofs.lemmas.Bool.{cases_lt, cond-false, cond-true, le-ltb, lt-ltb, ne_eqb}
use Rattle.std.proofs.lemmas.List.{get_or_past}
use Rattle.journal.specs.Layout.{sector}
use Rattle.shared_disk.specs.Sectors.{written}
use Rattle.cal_base.specs.Blocks.{block_count}
use Rattle.token_kind.specs.Flush.{IsFlushed, byte_by, flushed_byte, piece_at}
use Rattle.token_kind.specs.declared.flush.Flush.{Flush}
use Rattle.volume.specs.Stands.{AreBlocksKept}
use Rattle.volume.specs.Volume.{SpellsVolume, Volume, byte_behind, file_byte}
use Rattle.volume_edit.proofs.Data.{data_bytes}
use Rattle.volume_edit.specs.Blocks.{GoToFree}
use Rattle.volume_plan.proofs.FlushedInode.{CanFlush, IsAsBefore, IsAtPiece, IsHole, new_of, old_of, pointer_cases, there}
use Rattle.volume_plan.proofs.FreeBlocks.{AreFreeBlocks, least_are_free}
use Rattle.volume_plan.proofs.LowHomes.{byte_same}
use Rattle.volume_plan.specs.Flushing.{blocks_for, byte_over, data_writes}

go_to_free : (v : Volume) (low : ℕ) (blocks : List ℕ) (pieces : List (ℕ × List ℕ)) → AreFreeBlocks v.free low blocks → GoToFree v (data_writes blocks pieces)
go_to_free v low [] [] are = tt
go_to_free v low (b ∷ bs) [] are = tt
go_to_free v low [] (p ∷ ps) are = tt
go_to_free v low (b ∷ bs) (p ∷ ps) are = (record { block = b; sector = refl; free = are.1 }, go_to_free v (suc b) bs ps are.2)

abbrev pub data_of : Volume → Flush → List (ℕ × List ℕ)
data_of v flush = data_writes (blocks_for v flush) flush.pieces

-- the pieces go to free blocks
pub data_goes_to_free : (v : Volume) (flush : Flush) → GoToFree v (data_of v flush)
data_goes_to_free v flush = go_to_free v 0 (blocks_for v flush) flush.pieces (least_are_free v.free (length flush.pieces))

-- a byte of the block that a pointer names
byte_in : (sectors : List (List ℕ)) (block i : ℕ) → byte_behind sectors (block + 1) i ≡ slice_index (sector sectors (548 + block)) (i % 4096)
byte_in sectors block i =
    cond-false (nat_eq (block + 1) 0) 0 (slice_index (sector sectors (547 + (block + 1))) (i % 4096)) (ne_eqb (block + 1) 0 (λ e. omega arith))
    ∙ ap (λ (n : ℕ). slice_index (sector sectors n) (i % 4096)) (let e : 547 + (block + 1) ≡ 548 + block = omega arith in e)

-- what the flush makes of each byte
contents_byte : (kept contents : List ℕ) (flush : Flush) (i : ℕ) → IsFlushed kept flush.size flush.cut flush.pieces contents → slice_index contents i ≡ flushed_byte kept flush.cut flush.pieces i
contents_byte kept contents flush i is = elim (cases_lt i flush.size) [
  | inl below ↦ is.bytes i below
  | inr past ↦ get_or_past contents i 0 (let s = is.sized in omega (arith, s, past)) ∙ sym (is.past i past)
]

pub flushed_bytes : (sectors others : List (List ℕ)) (v : Volume) (flush : Flush) (kept contents : List ℕ) → CanFlush sectors v flush → AreBlocksKept v → SpellsVolume sectors v
    → IsFlushed kept flush.size flush.cut flush.pieces contents → ((i : ℕ) → file_byte sectors (old_of v flush) i ≡ slice_index kept i)
    → ((j : ℕ) → 548 ≤ j → sector others j ≡ sector (written sectors (data_of v flush)) j)
    → (i : ℕ) → file_byte others (new_of v flush) i ≡ slice_index contents i
flushed_bytes sectors others v flush kept contents can blocks spells is bytes same i =
    elim (pointer_cases sectors v flush (i / 4096) can) [
      | inl at ↦ of_piece at
      | inr other ↦ elim other [
        | inl before ↦ as_before before
        | inr hole ↦ of_hole hole
      ]
    ] ∙ sym (contents_byte kept contents flush i is)
  where
    made : List (List ℕ)
    made = written sectors (data_of v flush)

    of_piece : IsAtPiece sectors v flush (i / 4096) → file_byte others (new_of v flush) i ≡ flushed_byte kept flush.cut flush.pieces i
    of_piece at =
        ap (λ (n : ℕ). byte_behind others n i) at.names
        ∙ byte_in others at.placed.block i
        ∙ ap (λ (s : List ℕ). slice_index s (i % 4096)) (same (548 + at.placed.block) (omega arith) ∙ at.placed.stored)
        ∙ sym (ap (λ (o : Option (List ℕ)). byte_by o kept flush.cut i) at.placed.piece)

    as_before : IsAsBefore v flush (i / 4096) → file_byte others (new_of v flush) i ≡ flushed_byte kept flush.cut flush.pieces i
    as_before before =
        ap (λ (n : ℕ). byte_behind others n i) before.names
        ∙ byte_same (written sectors (data_of v flush)) others (slice_index (old_of v flush).blocks (i / 4096)) i same
        ∙ data_bytes sectors v (data_of v flush) (data_goes_to_free v flush) spells blocks flush.ino.0 (old_of v flush) (there sectors v flush can) i
        ∙ bytes i
        ∙ sym (cond-true (nat_lt (i / 4096) (block_count flush.cut)) (slice_index kept i) 0 (lt-ltb (i / 4096) (block_count flush.cut) before.before))
        ∙ sym (ap (λ (o : Option (List ℕ)). byte_by o kept flush.cut i) before.unplaced.piece)

    of_hole : IsHole v flush (i / 4096) → file_byte others (new_of v flush) i ≡ flushed_byte kept flush.cut flush.pieces i
    of_hole hole =
        ap (λ (n : ℕ). byte_behind others n i) hole.names
        ∙ sym (cond-false (nat_lt (i / 4096) (block_count flush.cut)) (slice_index kept i) 0 (le-ltb (i / 4096) (block_count flush.cut) hole.from))
        ∙ sym (ap (λ (o : Option (List ℕ)). byte_by o kept flush.cut i) hole.unplaced.piece)

-- the bytes of the flushed inode, by the pieces and by the sectors as they were
pub laid_bytes : (sectors : List (List ℕ)) (v : Volume) (flush : Flush) → CanFlush sectors v flush → AreBlocksKept v → SpellsVolume sectors v
    → (i : ℕ) → file_byte (written sectors (data_of v flush)) (new_of v flush) i ≡ byte_over (piece_at flush.pieces (i / 4096)) i (file_byte sectors (new_of v flush) i)
laid_bytes sectors v flush can blocks spells i =
    elim (pointer_cases sectors v flush (i / 4096) can) [
      | inl at ↦ of_piece at
      | inr other ↦ elim other [
        | inl before ↦ as_before before
        | inr hole ↦ of_hole hole
      ]
    ]
  where
    of_piece : IsAtPiece sectors v flush (i / 4096) → file_byte (written sectors (data_of v flush)) (new_of v flush) i ≡ byte_over (piece_at flush.pieces (i / 4096)) i (file_byte sectors (new_of v flush) i)
    of_piece at =
        ap (λ (n : ℕ). byte_behind (written sectors (data_of v flush)) n i) at.names
        ∙ byte_in (written sectors (data_of v flush)) at.placed.block i
        ∙ ap (λ (s : List ℕ). slice_index s (i % 4096)) at.placed.stored
        ∙ sym (ap (λ (o : Option (List ℕ)). byte_over o i (file_byte sectors (new_of v flush) i)) at.placed.piece)

    as_before : IsAsBefore v flush (i / 4096) → file_byte (written sectors (data_of v flush)) (new_of v flush) i ≡ byte_over (piece_at flush.pieces (i / 4096)) i (file_byte sectors (new_of v flush) i)
    as_before before =
        ap (λ (n : ℕ). byte_behind (written sectors (data_of v flush)) n i) before.names
        ∙ data_bytes sectors v (data_of v flush) (data_goes_to_free v flush) spells blocks flush.ino.0 (old_of v flush) (there sectors v flush can) i
        ∙ sym (ap (λ (n : ℕ). byte_behind sectors n i) before.names)
        ∙ sym (ap (λ (o : Option (List ℕ)). byte_over o i (file_byte sectors (new_of v flush) i)) before.unplaced.piece)

    of_hole : IsHole v flush (i / 4096) → file_byte (written sectors (data_of v flush)) (new_of v flush) i ≡ byte_over (piece_at flush.pieces (i / 4096)) i (file_byte sectors (new_of v flush) i)
    of_hole hole =
        ap (λ (n : ℕ). byte_behind (written sectors (data_of v flush)) n i) hole.names
        ∙ sym (ap (λ (n : ℕ). byte_behind sectors n i) hole.names)
        ∙ sym (ap (λ (o : Option (List ℕ)). byte_over o i (file_byte sectors (new_of v flush) i)) hole.unplaced.piece)
