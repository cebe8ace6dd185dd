use Rattle.std.proofs.Common.{◌≡◌, ◌<◌, ℕ, get_or}
use Rattle.volume_edit.specs.Edit.{free_inode}
use Rattle.image.proofs.made.free_inodes.Given as goal

abbrev pub invariant-loop-inode : goal.invariant-loop-inode
invariant-loop-inode l = (k : ℕ) → k < l.inode-index → get_or l.inodes k free_inode ≡ free_inode
