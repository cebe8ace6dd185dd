use Rattle.std.proofs.Common.{◌≡◌, length}
use Rattle.line_words.specs.Places.{are_whole}
use Rattle.line_words.specs.Words.{words_left}
use Rattle.line_words.proofs.places.are_whole.Given as goal

abbrev pub invariant-loop-word : goal.invariant-loop-word
invariant-loop-word l = are_whole (words_left l.rest) ≡ are_whole (words_left l.left)

abbrev pub decreases-loop-word : goal.decreases-loop-word
decreases-loop-word l = length (words_left l.rest)
