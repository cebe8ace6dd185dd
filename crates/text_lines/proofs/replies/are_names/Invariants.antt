use Rattle.std.proofs.Common.{◌≡◌, length}
use Rattle.text_lines.specs.Replies.{are_names}
use Rattle.line_words.specs.Words.{words_left}
use Rattle.text_lines.proofs.replies.are_names.Given as goal

abbrev pub invariant-loop-word : goal.invariant-loop-word
invariant-loop-word l = are_names l.missing (words_left l.rest) ≡ are_names l.count (words_left l.left)

abbrev pub decreases-loop-word : goal.decreases-loop-word
decreases-loop-word l = length (words_left l.rest)
