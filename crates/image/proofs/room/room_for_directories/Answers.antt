use Rattle.std.proofs.Common.{◌≡◌, ◌∙◌, ℕ, [], ap, arith, replicate}
use Rattle.cal_base.specs.Limits as limits
use Rattle.volume.specs.Volume.{Slots}
use Rattle.image.specs.Image.{no_directories}
use Rattle.image.proofs.room.room_for_directories.Goals as goal

pub returns : goal.returns
unfolding no_directories
returns c =
    let last : c.loop-number._number ≡ limits.inodes = omega arith in
    c.loop-number.invariant ∙ ap (λ (n : ℕ). replicate {A = Slots} n []) last
