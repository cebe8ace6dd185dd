use Rattle.std.proofs.Common.{◌∷◌, ◌++◌, [], ℕ, List, refl, sym, ◌∙◌, arith}
use Rattle.journal.specs.Layout.{body, gate_of, homes_in, with_contents}
use Rattle.journal.proofs.Attempting.{attempts_then, attempts_early, attempts_writes, same_key, same_view}
use Rattle.journal.proofs.write_back.write_back.Goals as goal

pub returns : goal.returns
returns g c =
    let header = c.args.header.now in
    let done = c.in_ok-copy_all.ensures in
    let own = same_key done.tried _ _ _ _ done.ends.makes ∙ c.requires.own ∙ sym (same_view done.tried _ _ _ _ done.ends.makes) in
    attempts_then (λ (s : List (List ℕ)). with_contents (homes_in header) (body s) ++ (1, gate_of 0) ∷ []) (λ (s : List (List ℕ)). with_contents (homes_in header) (body s)) (λ (s : List (List ℕ)). (1, gate_of 0) ∷ []) 16 1 _ _ _ _ _ _ c.write_gate.result _ _ _
    (λ s l. refl) done (attempts_writes ((1, gate_of 0) ∷ []) 1 _ _ _ _ _ _ _ own (omega arith) c.write_gate.ensures)

pub returns-in_err-copy_all : goal.returns-in_err-copy_all
returns-in_err-copy_all g c =
    let header = c.args.header.now in
    attempts_early (λ (s : List (List ℕ)). with_contents (homes_in header) (body s) ++ (1, gate_of 0) ∷ []) (λ (s : List (List ℕ)). with_contents (homes_in header) (body s)) (λ (s : List (List ℕ)). (1, gate_of 0) ∷ []) 16 17 _ _ _ _ c.from_residual.result _ _ _
    (λ s l. refl) (omega arith) c.in_err-copy_all.ensures c.from_residual.ensures.1
