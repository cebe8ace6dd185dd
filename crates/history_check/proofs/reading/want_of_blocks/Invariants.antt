use Rattle.std.proofs.Common.{◌≡◌, ◌<◌, ℕ}
use Rattle.tree_law.specs.declared.reply.Reply.TheVariants.{Refused}
use Rattle.tree_law.specs.declared.reply.Why.TheVariants.{NoSpace}
use Rattle.reply_text.specs.Text.{reply_text}
use Rattle.history_check.proofs.reading.want_of_blocks.Given as goal

abbrev pub invariant-loop-free : goal.invariant-loop-free
invariant-loop-free l = (free : ℕ) → free < l.free → reply_text (Refused (NoSpace free l.needed)) ≡ l.text → ⊥
