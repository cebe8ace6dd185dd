use Rattle.std.proofs.Common.{sym, ◌∙◌}
use Rattle.trace_reader.proofs.NextLine.{all_read, cut_off, leads_nowhere, leads_on, none_left, some_left}
use Rattle.trace_reader.proofs.lines.read_lines.Goals as goal

pub returns-in_default-clause-again : goal.returns-in_default-clause-again
returns-in_default-clause-again c last awaits = some_left _ _ last (none_left c.loop-rest.rest c.in_default.not-Some) (c.loop-rest.invariant.1 last awaits)

pub returns-then-is_end-clause-again : goal.returns-then-is_end-clause-again
returns-then-is_end-clause-again c last awaits =
    all_read _ _ _ _ last (cut_off c.loop-rest.rest c.cut_at.result.1 c.in-Some.left _ c.in-Some.is c.cut_at.ensures.parts) (sym c.is_end.ensures ∙ c.if-is_end.true) (c.loop-rest.invariant.1 last awaits)

pub loop-rest-preserved : goal.loop-rest-preserved
loop-rest-preserved c = (
  λ sound. c.in-Ok.ensures.sound (c.loop-rest.invariant.0 sound),
  λ last awaits.
      leads_on _ _ _ _ _ last c.in-Ok.field-0 (cut_off c.loop-rest.rest c.cut_at.result.1 c.in-Some.left _ c.in-Some.is c.cut_at.ensures.parts) (sym c.is_end.ensures ∙ c.if-is_end.false) c.in-Ok.ensures.again (c.loop-rest.invariant.1 last awaits),
)

pub returns-in-Err-clause-again : goal.returns-in-Err-clause-again
returns-in-Err-clause-again c last awaits =
    leads_nowhere _ _ _ c.loop-rest.reading c.read_line.new.reading last c.in-Err.error (cut_off c.loop-rest.rest c.cut_at.result.1 c.in-Some.left _ c.in-Some.is c.cut_at.ensures.parts) (sym c.is_end.ensures ∙ c.if-is_end.false) c.in-Err.ensures.again (c.loop-rest.invariant.1 last awaits)
