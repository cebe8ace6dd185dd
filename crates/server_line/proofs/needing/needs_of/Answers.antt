use Rattle.server_line.proofs.Needs.{are-needs, read-back}
use Rattle.server_line.proofs.needing.needs_of.Goals as goal

pub returns-clause-needed : goal.returns-clause-needed
returns-clause-needed c = read-back c.args.image.now c.args.want.now c.in_ok-needs.needs c.in_ok-needs.ensures

pub returns-clause-needs : goal.returns-clause-needs
returns-clause-needs c =
    are-needs c.args.image.now c.args.want.now c.in_ok-needs.needs c.names_in.result c.in_ok-needs.ensures c.clients.ensures.volume c.requires c.names_in.ensures.count c.names_in.ensures.few
