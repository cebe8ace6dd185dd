use Rattle.server_line.proofs.Firsts.{not-free}
use Rattle.server_line.proofs.resting.is_free.Goals as goal

pub returns-else-is_empty : goal.returns-else-is_empty
returns-else-is_empty c = not-free c.args.blockers.now.to_ask c.args.blockers.now.own c.is_empty.result c.is_empty.ensures c.if-is_empty.false
