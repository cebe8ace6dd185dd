use Rattle.std.proofs.Common.{sym, ap, ◌∙◌}
use Rattle.text_lines.specs.Replies.{are_bytes}
use Rattle.line_words.specs.Words.{words_left}
use Rattle.text_lines.proofs.OneWord.{bytes_in}
use Rattle.text_lines.proofs.replies.are_bytes.Goals as goal

pub returns-in-Some : goal.returns-in-Some
returns-in-Some c = c.are_digits.ensures ∙ bytes_in c.args.count c.in-Some.text.now ∙ ap (λ left. are_bytes c.args.count (words_left left)) (sym c.in-Some.is)
