use Rattle.std.proofs.Common.{rules, arith}
use Rattle.delayed_write.proofs.TurnLemmas.{write_turns}
use Rattle.delayed_write.proofs.delayed.Delayed.write.Goals as goal

pub returns-clause-turns : goal.returns-clause-turns
returns-clause-turns c = λ kept turns.
    write_turns kept c.args.self.now _ c.args.offset c.args.bytes.now (search rules) c.mark_write.array_long (omega arith) (search rules) turns
