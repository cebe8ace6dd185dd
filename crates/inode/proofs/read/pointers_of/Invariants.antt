use Rattle.std.proofs.Common.{◌≡◌, ◌+◌, ◌*◌, ◌<◌, ◌++◌, ℕ, take, length, slice_index}
use Rattle.cal_base.specs.Limits.{file_blocks}
use Rattle.inode.specs.Inode.{pointer_bytes}
use Rattle.inode.proofs.read.pointers_of.Given as goal

abbrev pub invariant-loop-place : goal.invariant-loop-place
invariant-loop-place l = record {
  read : l.bytes ≡ pointer_bytes (take l.place l.pointers) ++ l.rest;
  left : length l.rest + 2 * l.place ≡ 2 * file_blocks;
  size : length l.pointers ≡ file_blocks;
  small : (place : ℕ) → slice_index l.pointers place < 65536;
}
