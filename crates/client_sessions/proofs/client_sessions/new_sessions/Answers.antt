use Rattle.client_sessions.specs.Mail.{new_sessions}
use Rattle.client_sessions.proofs.Between.{new-more}
use Rattle.client_sessions.proofs.client_sessions.new_sessions.Goals as goal

pub loop-number-init : goal.loop-number-init
unfolding new_sessions
loop-number-init c = c.in_ok-sessions.ensures.items

pub loop-number-preserved : goal.loop-number-preserved
loop-number-preserved c = new-more _ _ _ _ _ _ c.in_ok-push.ensures.items c.in_ok-new.ensures c.loop-number.invariant
