use Rattle.std.specs.Prelude.{◌≡◌, ◌≤◌, ◌<◌, ◌+◌, ◌-◌, ◌*◌, ◌/◌, ℕ, Bool, true, false, nat_eq, nat_lt, if◌then◌else◌, List, ◌++◌, take, drop, replicate, slice_index_or, count_by}
use Rattle.cal_base.specs.Limits.{block_size, file_blocks}
use Rattle.cal_base.specs.Blocks.{block_count}

-- a block is marked; there are 64, one for each block of the largest file
abbrev pub is_marked : List Bool → ℕ → Bool
is_marked marks index = slice_index_or marks index false

-- how many blocks are marked
abbrev pub marked_count : List Bool → ℕ
marked_count marks = count_by (λ mark. mark) marks

-- no block is marked
abbrev pub no_marks : List Bool
no_marks = replicate file_blocks false

-- marks of which those from `from` to below `to` are set to one value
abbrev pub with_marks : List Bool → ℕ → ℕ → Bool → List Bool
with_marks marks from to mark = take from marks ++ (replicate (to - from) mark ++ drop to marks)

-- a write marks the blocks in which its bytes lie: from that of the first byte to that of the last
abbrev pub marked_by_write : List Bool → ℕ → ℕ → List Bool
marked_by_write marks offset count =
    if nat_eq count 0 then marks else with_marks marks (offset / block_size) (block_count (offset + count)) true

-- a shrinking truncate unmarks the blocks past the new end, and marks the block that holds the new end;
-- on a block border no block holds it
abbrev pub marked_by_shrink : List Bool → ℕ → List Bool
marked_by_shrink marks size =
    with_marks (with_marks marks (block_count size) file_blocks false) (size / block_size) (block_count size) true

-- a truncate that doesn't shrink marks nothing
abbrev pub marked_by_truncate : List Bool → ℕ → ℕ → List Bool
marked_by_truncate marks old size = if nat_lt size old then marked_by_shrink marks size else marks

-- a byte of a write lies in this block
pub record HoldsWritten (offset count index : ℕ) : Type 0 where
  pub byte : ℕ
  pub from : offset ≤ byte
  pub before : byte < offset + count
  pub block : byte / block_size ≡ index

-- a block begins before this end of a file
abbrev pub BeginsBefore : ℕ → ℕ → Type 0
BeginsBefore size index = index * block_size < size

-- an end of a file lies within this block, and not on a border
pub record HoldsEnd (size index : ℕ) : Type 0 where
  pub begins : index * block_size < size
  pub ends : size < (index + 1) * block_size
