use Rattle.std.proofs.Common.{◌≡◌, ◌++◌, ℕ, List, [], append_assoc}
use Rattle.run_trace.specs.Past.{start, after_all}
use Rattle.run_trace.specs.Texts.{items_text, text_of}
use Rattle.trace_text.specs.Line.{line}
use Rattle.trace_text.specs.Runs.{end_line}
use Rattle.run_trace.specs.declared.trace.TraceItem.{TraceItem}
use Rattle.run_trace.proofs.writing.write_trace.Goals as goal

in_turn : (text t t1 t2 t3 a : List ℕ) (given items : List TraceItem) (steps : ℕ) → given ≡ items → t ≡ [] → t1 ≡ t ++ a → t2 ≡ t1 ++ items_text start given → steps ≡ (after_all start given).steps → t3 ≡ t2 ++ line (end_line steps)
    → text ≡ t3 → text ≡ a ++ items_text start items ++ line (end_line (after_all start items).steps)
in_turn text t t1 t2 t3 a given items steps is e e1 e2 n e3 et = rw (et, e3, e2, e1, e, n, is) (simp append_assoc)

pub returns : goal.returns
unfolding text_of
returns c = in_turn _ _ _ _ _ _ _ _ _ c.as_slice.ensures c.new-text.ensures.items c.in_ok-put_run.ensures c.in_ok-steps.ensures.lines c.in_ok-steps.ensures.steps c.in_ok-put_end.ensures c.from_vec.ensures
