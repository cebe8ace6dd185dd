use Rattle.std.proofs.Common.{rules}
use Rattle.line_words.proofs.Kept.{text_again}
use Rattle.text_lines.proofs.replies.copy_of.Goals as goal

pub returns : goal.returns
returns c = rw (text_again c.args.text.now) (search rules)
