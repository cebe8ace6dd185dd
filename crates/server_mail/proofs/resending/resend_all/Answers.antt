use Rattle.std.proofs.Common.{arith}
use Rattle.server_mail.proofs.Repeating.{resent-all, resent-more}
use Rattle.server_mail.proofs.resending.resend_all.Goals as goal

pub loop-number-preserved : goal.loop-number-preserved
loop-number-preserved c = resent-more c.args.image.now c.args.mail.now c.loop-number.mail c.resend_to.new.mail c.loop-number.number c.loop-number-test.true c.loop-number.invariant c.in_ok-resend_to.ensures

pub returns-clause-sent : goal.returns-clause-sent
returns-clause-sent c = λ server view client between within.
    let past = c.loop-number-test.false in
    resent-all server view c.args.image.now c.args.mail.now c.loop-number.mail c.loop-number.number client c.loop-number.invariant (omega (arith, past, within)) between
