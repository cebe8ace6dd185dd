use Rattle.std.proofs.Common.{rules}
use Rattle.delayed_write.proofs.TurnLemmas.{truncate_is, truncate_turns}
use Rattle.delayed_write.proofs.delayed.Delayed.truncate.Goals as goal

pub invariant_of-self-2 : goal.invariant_of-self-2
invariant_of-self-2 c = truncate_is c.args.self.now _ c.args.size (search rules) c.mark_truncate.array_long c.requires.size (search rules) (search rules)

pub returns-clause-turns : goal.returns-clause-turns
returns-clause-turns c = λ kept turns. truncate_turns kept c.args.self.now _ c.args.size (search rules) c.mark_truncate.array_long c.requires.size (search rules) turns

pub returns-clause-limits : goal.returns-clause-limits
returns-clause-limits c = truncate_is c.args.self.now _ c.args.size (search rules) c.mark_truncate.array_long c.requires.size (search rules) (search rules)
