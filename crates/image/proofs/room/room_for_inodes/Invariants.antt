use Rattle.std.proofs.Common.{◌≡◌, ◌-◌, ◌∷◌, replicate}
use Rattle.volume.specs.Format.{root_inode}
use Rattle.volume_edit.specs.Edit.{free_inode}
use Rattle.image.proofs.room.room_for_inodes.Given as goal

abbrev pub invariant-loop-number : goal.invariant-loop-number
invariant-loop-number l = l.inodes.items ≡ root_inode ∷ replicate (l._number - 1) free_inode
