use Rattle.std.proofs.Common.{◌≡◌, true}
use Rattle.cal_base.specs.declared.identity.ServerId.{ServerId}
use Rattle.cal_base.specs.declared.identity.View.{View}
use Rattle.client_sessions.specs.Mail.{first_mail}
use Rattle.server_start.specs.Asks.{mail_asking}
use Rattle.server_start.specs.Boots.{was_asked}
use Rattle.server_start.specs.Turns.{TakesBack}
use Rattle.server_start.proofs.asks.Asks.of_asked.Given as goal

abbrev pub invariant-loop-number : goal.invariant-loop-number
invariant-loop-number l = (id : ServerId) (view : View) → l.fn.self.asking ≡ mail_asking id view (λ client. true) → l.fn.self.fresh ≡ first_mail id view → TakesBack id view (was_asked l.desk) l.number l.asking l.fresh
