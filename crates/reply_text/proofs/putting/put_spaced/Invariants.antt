use Rattle.std.proofs.Common.{◌≡◌, ◌++◌, drop}
use Rattle.reply_text.specs.Text.{spaced}
use Rattle.reply_text.proofs.putting.put_spaced.Given as goal

abbrev pub invariant-loop-word : goal.invariant-loop-word
invariant-loop-word l = l.text.items ++ spaced (drop l.word-index l.words) ≡ l.fn.text.items ++ spaced l.words
