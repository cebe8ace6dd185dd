use Rattle.std.proofs.Common.{◌≡◌, ◌++◌, length}
use Rattle.std.specs.List.{list_all}
use Rattle.tree_law.specs.NameTest.{is_name}
use Rattle.line_words.specs.Words.{words_left}
use Rattle.reply_words.proofs.outcomes.read_names.Given as goal

abbrev pub invariant-loop-name : goal.invariant-loop-name
invariant-loop-name l = (l.names ++ words_left l.rest ≡ words_left l.left) × (list_all is_name (words_left l.left) ≡ list_all is_name (words_left l.rest))

abbrev pub decreases-loop-name : goal.decreases-loop-name
decreases-loop-name l = length (words_left l.rest)
