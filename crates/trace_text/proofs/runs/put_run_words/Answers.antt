use Rattle.std.proofs.Common.{◌≡◌, ℕ, List, ◌++◌, append_assoc}
use Rattle.std.specs.Fmt.{decimal}
use Rattle.trace_text.proofs.runs.put_run_words.Goals as goal

in_turn : (t t1 t2 w1 w2 : List ℕ) (wide clients wide_too window : ℕ) → wide ≡ clients → wide_too ≡ window → t1 ≡ t ++ w1 ++ decimal wide → t2 ≡ t1 ++ w2 ++ decimal wide_too
    → t2 ≡ t ++ (w1 ++ decimal clients ++ w2 ++ decimal window)
in_turn t t1 t2 w1 w2 wide clients wide_too window is is_too e1 e2 = rw (e2, e1, is, is_too) (simp append_assoc)

pub returns : goal.returns
returns c = in_turn _ _ _ _ _ _ _ _ _ c.from.ensures c.from-2.ensures c.in_ok-put_field.ensures c.in_ok-put_field-2.ensures
