use Rattle.std.proofs.Common.{◌∷◌, []}
use Rattle.fence.proofs.RunsLemmas.{runs_then, runs_early, runs_passed}
use Rattle.volume.specs.Format.{blank, inode_writes, root_sector, to_each}
use Rattle.volume.proofs.writes.write_inodes.Goals as goal

pub returns-in_err-write_one : goal.returns-in_err-write_one
returns-in_err-write_one g c =
    let tried = rw c.first_root-root.ensures at c.in_err-write_one.ensures in
    runs_passed inode_writes _ _ _ _ c.from_residual.result _ _ _
    (runs_early ((36, root_sector) ∷ []) (to_each 511 37 blank) _ _ _ _ _ _ _ tried) c.from_residual.ensures.1

pub returns : goal.returns
returns g c =
    let made = rw c.first_root-root.ensures at c.in_ok-write_one.ensures in
    let then = rw c.blank_sector-blank.ensures at c.write_each.ensures in
    runs_then ((36, root_sector) ∷ []) (to_each 511 37 blank) _ _ _ _ _ _ _ _ _ _ made then
