use Rattle.server_mail.proofs.Repeating.{ResentBelow}
use Rattle.server_mail.proofs.resending.resend_all.Given as goal

abbrev pub invariant-loop-number : goal.invariant-loop-number
invariant-loop-number l = ResentBelow l.image l.fn.mail l.number l.mail
