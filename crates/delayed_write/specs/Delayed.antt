use Rattle.std.specs.Prelude.{◌≡◌, ◌≤◌, ◌<◌, ℕ, zero, suc, Bool, true, false, if◌then◌else◌, min, List, [], ◌∷◌, ◌++◌, length}
use Rattle.cal_base.specs.Limits.{file_blocks, file_size, unflushed_blocks}
use Rattle.cal_base.specs.declared.identity.Ino.{Ino}
use Rattle.token_kind.specs.declared.flush.Flush.{Flush}
use Rattle.token_kind.specs.declared.hold.Hold.{Hold}
use Rattle.cal_base.specs.Blocks.{block_count}
use Rattle.token_kind.specs.Flush.{IsFlushed}
use Rattle.file_bytes.specs.Bytes.{block_at, resized, written}
use Rattle.delayed_write.specs.Marks.{is_marked, marked_by_truncate, marked_by_write, marked_count, no_marks}

-- a file as a client sees it: its present bytes, the blocks whose bytes the server hasn't got, the least
-- size since the last flush, and whether anything was written or truncated since then
pub record Delayed : Type 0 where
  pub contents : List ℕ
  pub marks : List Bool
  pub cut : ℕ
  pub unflushed : Bool

-- a file of which nothing is unflushed
abbrev pub clean : List ℕ → Delayed
clean contents = record { contents = contents; marks = no_marks; cut = length contents; unflushed = false }

-- the file after a write
abbrev pub after_write : Delayed → ℕ → List ℕ → Delayed
after_write d offset bytes = record {
  contents = written d.contents offset bytes;
  marks = marked_by_write d.marks offset (length bytes);
  cut = d.cut;
  unflushed = true;
}

-- the file after a truncate
abbrev pub after_truncate : Delayed → ℕ → Delayed
after_truncate d size = record {
  contents = resized d.contents size;
  marks = marked_by_truncate d.marks (length d.contents) size;
  cut = min d.cut size;
  unflushed = true;
}

-- pieces, and that of the block with this index behind them, if it is marked
abbrev pub with_piece : List (ℕ × List ℕ) → List ℕ → List Bool → ℕ → List (ℕ × List ℕ)
with_piece pieces contents marks index = if is_marked marks index then pieces ++ (index, block_at contents index) ∷ [] else pieces

-- the marked blocks below n, each with its index and bytes, by rising index
unfoldable pub pieces_below : List ℕ → List Bool → ℕ → List (ℕ × List ℕ)
pieces_below contents marks zero = []
pieces_below contents marks (suc n) = with_piece (pieces_below contents marks n) contents marks n

-- the marked blocks of a file
abbrev pub pieces_of : Delayed → List (ℕ × List ℕ)
pieces_of d = pieces_below d.contents d.marks file_blocks

-- the flush of a file: its size, its cut and its marked blocks
abbrev pub flush_of : Delayed → Ino → Hold → Hold → ℕ → Flush
flush_of d ino leave_data leave_attr number = record {
  number = number;
  ino = ino;
  size = length d.contents;
  cut = d.cut;
  leave_data = leave_data;
  leave_attr = leave_attr;
  pieces = pieces_of d;
}

-- the flush of a file turns the kept contents into the present ones
pub record Turns (kept : List ℕ) (d : Delayed) : Type 0 where
  pub flushed : IsFlushed kept (length d.contents) d.cut (pieces_of d) d.contents

-- what stands of a file at all times: its size is within the limit, no mark is past its end, at most 16
-- blocks are marked, and where nothing is unflushed nothing is marked or cut
pub record IsDelayed (d : Delayed) : Type 0 where
  pub size : length d.contents ≤ file_size
  pub marks : length d.marks ≡ file_blocks
  pub cut : d.cut ≤ length d.contents
  pub below : (index : ℕ) → is_marked d.marks index ≡ true → index < block_count (length d.contents)
  pub few : marked_count d.marks ≤ unflushed_blocks
  pub idle : d.unflushed ≡ false → d ≡ clean d.contents
