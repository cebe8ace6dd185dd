use Rattle.server_desk.proofs.Liking.{revokes}
use Rattle.server_desk.proofs.desk.Desk.revoke.Goals as goal

pub returns-clause-like : goal.returns-clause-like
returns-clause-like c =
    revokes c.self.inside.reports c.self.inside.line c.to_send.new.self c.args.blockers.now c.to_send.ensures.requests c.in_ok-revokes.ensures.asked c.args.self.now c.self.view_is
