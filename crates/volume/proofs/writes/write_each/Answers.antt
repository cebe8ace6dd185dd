use Rattle.std.proofs.Common.{◌+◌, ◌-◌, ◌++◌, ◌∷◌, [], arith}
use Rattle.fence.proofs.RunsLemmas.{runs_nothing, runs_then, runs_early, runs_passed}
use Rattle.volume.specs.Format.{to_each}
use Rattle.volume.proofs.Each.{to_each_next, to_each_split}
use Rattle.volume.proofs.writes.write_each.Goals as goal

pub loop-i-init : goal.loop-i-init
unfolding to_each
loop-i-init g c = record { runs = runs_nothing _ _ _; room = omega arith }

pub returns-in_err-write_one : goal.returns-in_err-write_one
returns-in_err-write_one g c =
    let first = c.args.first in
    let count = c.args.count in
    let bytes = c.args.from.now in
    let i = c.loop-i.i in
    let here = (first + i, bytes) ∷ [] in
    let rest = to_each (count - (i + 1)) (first + (i + 1)) bytes in
    let tried = runs_early (to_each i first bytes ++ here) rest _ _ _ _ _ _ _ (runs_then (to_each i first bytes) here _ _ _ _ _ _ _ _ _ _ c.loop-i.invariant.runs c.in_err-write_one.ensures) in
    let all = rw (to_each_next i first bytes, to_each_split count (i + 1) first bytes (omega arith)) at tried in
    runs_passed (to_each count first bytes) _ _ _ _ c.from_residual.result _ _ _ all c.from_residual.ensures.1

pub loop-i-preserved : goal.loop-i-preserved
loop-i-preserved g c =
    let first = c.args.first in
    let bytes = c.args.from.now in
    let i = c.loop-i.i in
    let made = runs_then (to_each i first bytes) ((first + i, bytes) ∷ []) _ _ _ _ _ _ _ _ _ _ c.loop-i.invariant.runs c.in_ok-write_one.ensures in
    record {
      runs = rw (to_each_next i first bytes) at made;
      room = (let r = c.in_ok-write_one.ensures.room in let h = c.loop-i.invariant.room in omega arith);
    }
