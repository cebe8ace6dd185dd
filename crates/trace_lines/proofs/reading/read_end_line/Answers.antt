use Rattle.std.proofs.Common.{sym, ap, ◌∙◌, List, ℕ}
use Rattle.line_words.specs.Words.{words}
use Rattle.trace_lines.specs.Grammar.{end_in}
use Rattle.trace_lines.proofs.Given.{found, missed}
use Rattle.trace_lines.proofs.LinesRead.{end_is}
use Rattle.trace_lines.proofs.reading.read_end_line.Goals as goal

pub returns-in-Ok-clause-again : goal.returns-in-Ok-clause-again
returns-in-Ok-clause-again c = λ steps is text. found steps c.in-Ok.steps (end_in (words c.args.text.now)) c.in-Ok.ensures (ap (λ (t : List ℕ). end_in (words t)) (sym text) ∙ end_is steps is)

pub returns-in-Err-clause-again : goal.returns-in-Err-clause-again
returns-in-Err-clause-again c = λ steps is text. missed steps c.in-Err.field-0 (end_in (words c.args.text.now)) c.in-Err.ensures (ap (λ (t : List ℕ). end_in (words t)) (sym text) ∙ end_is steps is)
