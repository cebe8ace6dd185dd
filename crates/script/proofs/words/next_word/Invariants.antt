use Rattle.std.proofs.Common.{◌≡◌, length}
use Rattle.script.specs.Words.{words}
use Rattle.script.proofs.words.next_word.Given as goal

abbrev pub invariant-loop-behind : goal.invariant-loop-behind
invariant-loop-behind l = words l.rest ≡ words l.line

abbrev pub decreases-loop-behind : goal.decreases-loop-behind
decreases-loop-behind l = length l.rest
