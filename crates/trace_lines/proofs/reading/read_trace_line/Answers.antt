use Rattle.std.proofs.Common.{sym, ap, ◌∙◌}
use Rattle.trace_lines.specs.Grammar.{line_of}
use Rattle.trace_lines.specs.Lines.{IsTraceLine}
use Rattle.trace_lines.proofs.Given.{given, is_so}
use Rattle.trace_lines.proofs.LinesRead.{line_is}
use Rattle.trace_lines.proofs.LinesWithin.{line_within}
use Rattle.trace_lines.proofs.reading.read_trace_line.Goals as goal

pub returns-clause-is : goal.returns-clause-is
returns-clause-is c = is_so IsTraceLine (line_of c.args.text.now) c.read_line.result c.read_line.ensures (line_within c.args.text.now)

pub returns-clause-again : goal.returns-clause-again
returns-clause-again c = λ line is text. given line (line_of c.args.text.now) c.read_line.result c.read_line.ensures (ap line_of (sym text) ∙ line_is line is)
