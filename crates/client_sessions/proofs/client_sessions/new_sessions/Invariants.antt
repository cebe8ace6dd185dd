use Rattle.std.proofs.Common.{◌≡◌}
use Rattle.client_sessions.specs.Mail.{new_sessions}
use Rattle.client_sessions.proofs.client_sessions.new_sessions.Given as goal

abbrev pub invariant-loop-number : goal.invariant-loop-number
invariant-loop-number l = l.sessions.items ≡ new_sessions l.server l.view l.number
