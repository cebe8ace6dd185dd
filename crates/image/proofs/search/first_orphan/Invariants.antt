use Rattle.std.proofs.Common.{◌≡◌, ◌-◌, ◌≤◌, ◌<◌, ℕ, false, length}
use Rattle.volume_edit.specs.Edit.{inode_at}
use Rattle.image.specs.Image.{is_orphan}
use Rattle.image.proofs.search.first_orphan.Given as goal

abbrev pub invariant-loop-number : goal.invariant-loop-number
invariant-loop-number l = record {
  later : l.fn.from ≤ l.number;
  within : l.number ≤ length l.inodes;
  none : (number : ℕ) → l.fn.from ≤ number → number < l.number → is_orphan (inode_at l.inodes number) ≡ false;
}

abbrev pub decreases-loop-number : goal.decreases-loop-number
decreases-loop-number l = length l.inodes - l.number
