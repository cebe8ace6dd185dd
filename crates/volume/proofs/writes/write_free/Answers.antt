use Rattle.std.proofs.Common.{◌∷◌, []}
use Rattle.fence.proofs.RunsLemmas.{runs_then, runs_early, runs_passed}
use Rattle.volume.specs.Format.{blank, free_writes, to_each}
use Rattle.volume.proofs.writes.write_free.Goals as goal

pub returns-in_err-write_one : goal.returns-in_err-write_one
returns-in_err-write_one g c =
    let tried = rw c.blank_sector-blank.ensures at c.in_err-write_one.ensures in
    runs_passed free_writes _ _ _ _ c.from_residual.result _ _ _
    (runs_early ((1, blank) ∷ []) (to_each 17 19 blank) _ _ _ _ _ _ _ tried) c.from_residual.ensures.1

pub returns : goal.returns
returns g c =
    let made = rw c.blank_sector-blank.ensures at c.in_ok-write_one.ensures in
    let then = rw c.blank_sector-blank.ensures at c.write_each.ensures in
    runs_then ((1, blank) ∷ []) (to_each 17 19 blank) _ _ _ _ _ _ _ _ _ _ made then
