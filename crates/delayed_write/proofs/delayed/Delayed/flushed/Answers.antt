use Rattle.std.proofs.Common.{rules}
use Rattle.delayed_write.proofs.TurnLemmas.{clean_is, clean_turns}
use Rattle.delayed_write.proofs.delayed.Delayed.flushed.Goals as goal

pub invariant_of-self : goal.invariant_of-self
invariant_of-self c = clean_is _ (search rules) (search rules)

pub returns-clause-turns : goal.returns-clause-turns
returns-clause-turns c = clean_turns _ _ (search rules)
