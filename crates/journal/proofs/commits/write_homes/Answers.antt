use Rattle.std.proofs.Common.{◌<◌, ◌++◌, ◌∷◌, [], arith}
use Rattle.std.proofs.lemmas.List.Elements.{All-from_recursion}
use Rattle.cal_base.specs.Limits as limits
use Rattle.fence.proofs.RunsLemmas.{runs_then, runs_early, runs_passed}
use Rattle.journal.specs.Layout.{header_of, contents_at, gate_of}
use Rattle.journal.specs.Commit.{commit_writes}
use Rattle.journal.proofs.Headers.{homes_below, length-contents_at}
use Rattle.journal.proofs.commits.write_homes.Goals as goal

pub returns-in_err-write_body-clause-runs : goal.returns-in_err-write_body-clause-runs
returns-in_err-write_body-clause-runs g c =
    let homes = c.args.homes.now in
    let body = (2, header_of homes) ∷ contents_at 3 homes in
    runs_passed (commit_writes homes) _ _ _ _ c.from_residual.result _ _ _
    (runs_early body ((1, gate_of 1) ∷ (homes ++ (1, gate_of 0) ∷ [])) _ _ _ _ _ _ _ c.in_err-write_body.ensures) c.from_residual.ensures.1

pub write_gate-requires : goal.write_gate-requires
write_gate-requires g c = let l = length-contents_at c.args.homes.now 3 in let r = c.in_ok-write_body.ensures.room in omega arith

pub returns-in_err-write_gate-clause-runs : goal.returns-in_err-write_gate-clause-runs
returns-in_err-write_gate-clause-runs g c =
    let homes = c.args.homes.now in
    let body = (2, header_of homes) ∷ contents_at 3 homes in
    runs_passed (commit_writes homes) _ _ _ _ c.from_residual-in_err-write_gate.result _ _ _
    (runs_then body ((1, gate_of 1) ∷ (homes ++ (1, gate_of 0) ∷ [])) _ _ _ _ _ _ _ _ _ _ c.in_ok-write_body.ensures
    (runs_early ((1, gate_of 1) ∷ []) (homes ++ (1, gate_of 0) ∷ []) _ _ _ _ _ _ _ c.in_err-write_gate.ensures))
    c.from_residual-in_err-write_gate.ensures.1

pub write_all-requires-clause-within : goal.write_all-requires-clause-within
write_all-requires-clause-within g c = All-from_recursion (λ w. w.0 < limits.sectors) c.args.homes.now (homes_below c.args.homes.now 0 c.requires.allowed.ascending)

pub write_all-requires-clause-room : goal.write_all-requires-clause-room
write_all-requires-clause-room g c =
    let l = length-contents_at c.args.homes.now 3 in
    let r = c.in_ok-write_body.ensures.room in
    let s = c.in_ok-write_gate.ensures.room in
    omega arith

pub returns-in_err-write_all-clause-runs : goal.returns-in_err-write_all-clause-runs
returns-in_err-write_all-clause-runs g c =
    let homes = c.args.homes.now in
    let body = (2, header_of homes) ∷ contents_at 3 homes in
    runs_passed (commit_writes homes) _ _ _ _ c.from_residual-in_err-write_all.result _ _ _
    (runs_then body ((1, gate_of 1) ∷ (homes ++ (1, gate_of 0) ∷ [])) _ _ _ _ _ _ _ _ _ _ c.in_ok-write_body.ensures
    (runs_then ((1, gate_of 1) ∷ []) (homes ++ (1, gate_of 0) ∷ []) _ _ _ _ _ _ _ _ _ _ c.in_ok-write_gate.ensures
    (runs_early homes ((1, gate_of 0) ∷ []) _ _ _ _ _ _ _ c.in_err-write_all.ensures)))
    c.from_residual-in_err-write_all.ensures.1

pub write_gate-requires-2 : goal.write_gate-requires-2
write_gate-requires-2 g c =
    let l = length-contents_at c.args.homes.now 3 in
    let r = c.in_ok-write_body.ensures.room in
    let s = c.in_ok-write_gate.ensures.room in
    let t = c.in_ok-write_all.ensures.room in
    omega arith

pub returns-clause-runs : goal.returns-clause-runs
returns-clause-runs g c =
    let homes = c.args.homes.now in
    let body = (2, header_of homes) ∷ contents_at 3 homes in
    runs_then body ((1, gate_of 1) ∷ (homes ++ (1, gate_of 0) ∷ [])) _ _ _ _ _ _ _ _ _ _ c.in_ok-write_body.ensures
    (runs_then ((1, gate_of 1) ∷ []) (homes ++ (1, gate_of 0) ∷ []) _ _ _ _ _ _ _ _ _ _ c.in_ok-write_gate.ensures
    (runs_then homes ((1, gate_of 0) ∷ []) _ _ _ _ _ _ _ _ _ _ c.in_ok-write_all.ensures c.write_gate-2.ensures))
