use Rattle.std.proofs.Common.{arith, rules, subst}
use Rattle.token_kind.specs.Flush.{IsFlush}
use Rattle.token_kind.specs.declared.flush.Flush.{Flush}
use Rattle.delayed_write.proofs.TurnLemmas.{flush_is}
use Rattle.delayed_write.proofs.delayed.Delayed.to_flush.Goals as goal

pub returns-clause-grammar : goal.returns-clause-grammar
returns-clause-grammar c =
    subst (λ (f : Flush). IsFlush f) (search rules)
    (flush_is c.args.self.now c.args.ino c.args.leave_data c.args.leave_attr c.args.number (search rules) c.requires.number (omega arith) c.requires.ino c.requires.leave_data c.requires.leave_attr)
