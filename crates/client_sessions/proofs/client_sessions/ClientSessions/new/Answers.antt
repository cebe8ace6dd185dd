use Rattle.std.proofs.Common.{◌∙◌, length, ap}
use Rattle.client_sessions.proofs.Between.{new-count}
use Rattle.client_sessions.proofs.client_sessions.ClientSessions.new.Goals as goal

pub invariant_of-result : goal.invariant_of-result
invariant_of-result c = ap length c.in_ok-sessions.ensures ∙ new-count c.args.server c.args.view 16
