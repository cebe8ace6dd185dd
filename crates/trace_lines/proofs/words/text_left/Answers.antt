use Rattle.std.proofs.Common.{◌∙◌, ap, sym, Ok, List, ℕ}
use Rattle.line_words.specs.Words.{words_left}
use Rattle.trace_lines.specs.Words.{text_left}
use Rattle.trace_lines.proofs.Texts.{text_taken}
use Rattle.trace_lines.proofs.words.text_left.Goals as goal

pub returns : goal.returns
returns c = ap (λ left. text_left (words_left left)) c.in-Some.is ∙ text_taken c.in-Some.text.now ∙ ap (λ (t : List ℕ). Ok t) (sym c.in_ok-copy_of.ensures)
