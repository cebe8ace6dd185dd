use Rattle.server_desk.proofs.Liking.{gives}
use Rattle.server_desk.proofs.desk.Desk.grant.Goals as goal

pub returns-clause-like : goal.returns-clause-like
returns-clause-like c =
    gives c.self.inside.reports c.grant.new.self c.self.inside.line c.drop_first.new.line c.args.client c.args.tokens.now c.in_ok-grant.ensures.ok c.drop_first.ensures c.args.self.now c.self.view_is
