use Rattle.std.proofs.Common.{◌+◌, ◌++◌, ◌∷◌, [], ℕ, List, length, take, drop, get_or, sym, ap, arith}
use Rattle.fence.proofs.RunsLemmas.{runs_then, runs_early, runs_passed}
use Rattle.journal.specs.Layout.{contents_at}
use Rattle.journal.proofs.Headers.{contents_next, contents_split}
use Rattle.journal.proofs.commits.write_contents.Goals as goal

pub returns-in_err-write_one : goal.returns-in_err-write_one
returns-in_err-write_one g c =
    let homes = c.args.homes.now in
    let i = c.loop-i.i in
    let here = (3 + i, (get_or homes i (0, [])).1) ∷ [] in
    let rest = contents_at (3 + length (take (i + 1) homes)) (drop (i + 1) homes) in
    let tried = runs_early (contents_at 3 (take i homes) ++ here) rest _ _ _ _ _ _ _ (runs_then (contents_at 3 (take i homes)) here _ _ _ _ _ _ _ _ _ _ c.loop-i.invariant.runs c.in_err-write_one.ensures) in
    let next = ap (λ (ws : List (ℕ × List ℕ)). ws ++ rest) (sym (contents_next homes 3 i (omega arith))) in
    let all = rw (next, contents_split homes 3 (i + 1)) at tried in
    runs_passed (contents_at 3 homes) _ _ _ _ c.from_residual.result _ _ _ all c.from_residual.ensures.1

pub loop-i-preserved : goal.loop-i-preserved
loop-i-preserved g c =
    let homes = c.args.homes.now in
    let i = c.loop-i.i in
    let here = (3 + i, (get_or homes i (0, [])).1) ∷ [] in
    let made = runs_then (contents_at 3 (take i homes)) here _ _ _ _ _ _ _ _ _ _ c.loop-i.invariant.runs c.in_ok-write_one.ensures in
    record {
      runs = rw (contents_next homes 3 i (omega arith)) made;
      room = (let r = c.in_ok-write_one.ensures.room in let h = c.loop-i.invariant.room in omega arith);
    }
