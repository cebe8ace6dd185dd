use Rattle.std.proofs.Common.{arith}
use Rattle.server_start.proofs.Mailing.{asks-everyone, asks-next, asks-none, next-steps}
use Rattle.server_start.proofs.asks.Asks.new.Goals as goal

pub loop-number-init : goal.loop-number-init
loop-number-init c = asks-none c.args.id c.args.view c.in_ok-asking.asking c.in_ok-asking.ensures

pub send-requires-clause-steps : goal.send-requires-clause-steps
send-requires-clause-steps c = next-steps c.args.id c.args.view c.loop-number.number c.loop-number.asking (omega arith) c.loop-number.invariant

pub loop-number-preserved : goal.loop-number-preserved
loop-number-preserved c = asks-next c.args.id c.args.view c.loop-number.number c.loop-number.asking c.send.new.self (omega arith) c.loop-number.invariant c.in_ok-send.ensures

pub returns-clause-asking : goal.returns-clause-asking
returns-clause-asking c = asks-everyone c.args.id c.args.view c.loop-number.number c.loop-number.asking (omega arith) c.loop-number.invariant
