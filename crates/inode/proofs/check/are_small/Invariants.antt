use Rattle.std.proofs.Common.{◌≤◌, ◌<◌, ℕ, slice_index}
use Rattle.cal_base.specs.Limits as limits
use Rattle.inode.proofs.check.are_small.Given as goal

abbrev pub invariant-loop-pointer : goal.invariant-loop-pointer
invariant-loop-pointer l = (place : ℕ) → place < l.pointer-index → slice_index l.pointers place ≤ limits.blocks
