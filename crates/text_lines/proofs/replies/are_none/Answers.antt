use Rattle.std.proofs.Common.{sym, ap, ◌∙◌}
use Rattle.text_lines.specs.Replies.{are_none}
use Rattle.line_words.specs.Words.{words_left}
use Rattle.text_lines.proofs.OneWord.{has_words}
use Rattle.text_lines.proofs.replies.are_none.Goals as goal

pub returns-in-Some : goal.returns-in-Some
returns-in-Some c = sym (ap (λ left. are_none (words_left left)) c.in-Some.is ∙ has_words c.in-Some._text.now)
