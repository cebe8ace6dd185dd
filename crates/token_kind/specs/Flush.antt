use Rattle.std.specs.Prelude.{◌≡◌, ◌≤◌, ◌<◌, ◌^◌, ◌+◌, ◌/◌, ◌%◌, ℕ, Bool, true, ◌&&◌, nat_eq, nat_le, nat_lt, if◌then◌else◌, IsTrue, Option, Some, None, List, [], ◌∷◌, All, length, slice_index}
use Rattle.std.specs.Map.{lookup}
use Rattle.cal_base.specs.Blocks.{block_count}
use Rattle.cal_base.specs.Limits.{block_size, file_size, inodes, unflushed_blocks}
use Rattle.token_kind.specs.Hold.{hold_number}
use Rattle.token_kind.specs.declared.flush.Flush.{Flush}

-- the bytes of the piece with this index, where there is one
abbrev pub piece_at : List (ℕ × List ℕ) → ℕ → Option (List ℕ)
piece_at pieces index = lookup (λ other. nat_eq other index) pieces

-- byte i of a file under a flush that has no piece for its block: the kept byte in a block that begins before `cut`, else 0
abbrev pub kept_byte : List ℕ → ℕ → ℕ → ℕ
kept_byte kept cut i = if nat_lt (i / block_size) (block_count cut) then slice_index kept i else 0

-- byte i of a file, by the piece of its block
abbrev pub byte_by : Option (List ℕ) → List ℕ → ℕ → ℕ → ℕ
byte_by (Some piece) kept cut i = slice_index piece (i % block_size)
byte_by None kept cut i = kept_byte kept cut i

-- byte i of a file as a flush leaves it: that of the piece of its block, if there is one; else what is kept
abbrev pub flushed_byte : List ℕ → ℕ → List (ℕ × List ℕ) → ℕ → ℕ
flushed_byte kept cut pieces i = byte_by (piece_at pieces (i / block_size)) kept cut i

-- a flush of this size, cut and these pieces turns the kept contents into these; past their end it
-- leaves zeros, so that the file reads as zeros where it grows again
pub record IsFlushed (kept : List ℕ) (size cut : ℕ) (pieces : List (ℕ × List ℕ)) (contents : List ℕ) : Type 0 where
  pub sized : length contents ≡ size
  pub bytes : (i : ℕ) → i < size → slice_index contents i ≡ flushed_byte kept cut pieces i
  pub past : (i : ℕ) → size ≤ i → flushed_byte kept cut pieces i ≡ 0

-- the indexes of pieces rise from `least` on, and stay below `end`
abbrev pub are_rising : ℕ → ℕ → List (ℕ × List ℕ) → Bool
are_rising least end [] = true
are_rising least end (piece ∷ pieces) = nat_le least piece.0 && nat_lt piece.0 end && are_rising (piece.0 + 1) end pieces

-- what a flush may be: it has a number of 64 bits from 1 on, an inode of the volume, a size that a file can
-- have, a cut within it, at most Read left of both classes, and at most so many whole blocks of the
-- file as may be unflushed, by rising index
pub record IsFlush (f : Flush) : Type 0 where
  pub number : 1 ≤ f.number
  pub fits : f.number < 2 ^ 64
  pub ino : f.ino.0 < inodes
  pub size : f.size ≤ file_size
  pub cut : f.cut ≤ f.size
  pub leave_data : hold_number f.leave_data ≤ 1
  pub leave_attr : hold_number f.leave_attr ≤ 1
  pub few : length f.pieces ≤ unflushed_blocks
  pub rising : IsTrue (are_rising 0 (block_count f.size) f.pieces)
  pub whole : All (λ piece. length piece.1 ≡ block_size) f.pieces
