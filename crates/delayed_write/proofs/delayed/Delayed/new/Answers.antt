use Rattle.std.proofs.Common.{rules}
use Rattle.delayed_write.proofs.TurnLemmas.{clean_is, clean_turns}
use Rattle.delayed_write.proofs.delayed.Delayed.new.Goals as goal

pub invariant_of-result : goal.invariant_of-result
invariant_of-result c = clean_is _ (search rules) (search rules)

pub returns-clause-turns : goal.returns-clause-turns
returns-clause-turns c = clean_turns _ _ (search rules)
