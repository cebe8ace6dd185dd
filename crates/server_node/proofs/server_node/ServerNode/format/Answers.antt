use Rattle.server_node.proofs.Fresh.{begins-fresh}
use Rattle.server_node.proofs.server_node.ServerNode.format.Goals as goal

pub begin-requires : goal.begin-requires
begin-requires g c = begins-fresh c.args.id c.args.clients c.args.window c.in-Ok.started c.sessions_stay_between.ensures.first c.in-Ok.ensures.serves
