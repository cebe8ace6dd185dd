use Rattle.server_desk.proofs.Liking.{purges}
use Rattle.server_desk.proofs.desk.Desk.purge.Goals as goal

pub returns : goal.returns
returns c =
    purges c.self.inside.reports c.purge.new.self c.self.inside.line c.drop_client.new.self c.args.client c.purge.ensures c.drop_client.ensures.requests c.drop_client.ensures.asked
    c.args.self.now c.self.view_is
