use Rattle.std.proofs.Common.{◌≡◌, ◌∙◌, ℕ, length, replicate, ap, arith}
use Rattle.volume_edit.specs.Edit.{free_inode}
use Rattle.image.proofs.FreshMade.{all_same}
use Rattle.image.proofs.made.free_inodes.Goals as goal

pub returns : goal.returns
returns c =
    let same : length c.loop-inode.inodes ≡ length c.args.inodes.now = omega arith in
    all_same c.loop-inode.inodes free_inode free_inode (λ k below. c.loop-inode.invariant k (omega arith)) ∙ ap (λ (n : ℕ). replicate n free_inode) same
