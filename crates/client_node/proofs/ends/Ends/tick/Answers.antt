use Rattle.std.proofs.Common.{refl}
use Rattle.client_node.proofs.Turns.{gives_tick}
use Rattle.client_node.proofs.ends.Ends.tick.Goals as goal

pub returns-clause-gives : goal.returns-clause-gives
returns-clause-gives c = gives_tick c.args.self.now _ c.in_ok-sent.ensures refl refl
