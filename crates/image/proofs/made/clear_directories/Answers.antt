use Rattle.std.proofs.Common.{◌≡◌, ◌∙◌, ℕ, [], length, replicate, ap, arith}
use Rattle.cal_base.specs.Limits as limits
use Rattle.volume.specs.Volume.{Slots}
use Rattle.image.specs.Image.{no_directories}
use Rattle.image.proofs.FreshMade.{all_same}
use Rattle.image.proofs.made.clear_directories.Goals as goal

pub returns : goal.returns
unfolding no_directories
returns c =
    let count = c.requires in
    let same : length c.loop-directory.directories ≡ limits.inodes = omega arith in
    all_same {A = Slots} c.loop-directory.directories [] [] (λ k below. c.loop-directory.invariant k (omega arith)) ∙ ap (λ (n : ℕ). replicate {A = Slots} n []) same
