use Rattle.std.proofs.Common.{◌≡◌, ℕ, List, [], ◌∷◌, ◌++◌, append_assoc, append-nil}
use Rattle.trace_text.specs.Line.{line}
use Rattle.trace_text.proofs.steps.put_covered_step.Goals as goal

-- a line for the start, one for the entry and one for the answer, and nothing for the rest
in_turn : (t t1 t2 t3 t4 a b d : List ℕ) → t1 ≡ t ++ a → t2 ≡ t1 ++ b → t3 ≡ t2 ++ 10 ∷ [] → t4 ≡ t3 ++ d
    → t4 ≡ t ++ (a ++ ([] ++ (line b ++ [])) ++ [] ++ (d ++ [] ++ []))
in_turn t t1 t2 t3 t4 a b d e1 e2 e3 e4 = rw (e4, e3, e2, e1) (simp (append_assoc, append-nil))

pub returns : goal.returns
returns c = in_turn _ _ _ _ _ _ _ _ c.in_ok-put_start_line.ensures c.in_ok-put_call_entry.ensures c.in_ok-put.ensures c.in_ok-put_answer_line.ensures
