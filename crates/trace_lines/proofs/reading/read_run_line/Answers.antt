use Rattle.std.proofs.Common.{sym, ap, ◌∙◌, List, ℕ}
use Rattle.line_words.specs.Words.{words}
use Rattle.trace_lines.specs.Grammar.{run_in}
use Rattle.trace_lines.proofs.Given.{found, missed}
use Rattle.trace_lines.proofs.LinesRead.{run_is}
use Rattle.trace_lines.proofs.LinesWithin.{run_within}
use Rattle.trace_lines.proofs.reading.read_run_line.Goals as goal

pub returns-in-Ok-clause-is : goal.returns-in-Ok-clause-is
returns-in-Ok-clause-is c = run_within (words c.args.text.now) c.in-Ok.run' (sym c.in-Ok.ensures)

pub returns-in-Ok-clause-again : goal.returns-in-Ok-clause-again
returns-in-Ok-clause-again c = λ run is text. found run c.in-Ok.run' (run_in (words c.args.text.now)) c.in-Ok.ensures (ap (λ (t : List ℕ). run_in (words t)) (sym text) ∙ run_is run is)

pub returns-in-Err-clause-again : goal.returns-in-Err-clause-again
returns-in-Err-clause-again c = λ run is text. missed run c.in-Err.field-0 (run_in (words c.args.text.now)) c.in-Err.ensures (ap (λ (t : List ℕ). run_in (words t)) (sym text) ∙ run_is run is)
