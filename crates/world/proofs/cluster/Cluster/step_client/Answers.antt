use Rattle.std.proofs.Common.{subst, sym}
use Rattle.world.specs.World.{IsWorld}
use Rattle.world.proofs.Makes.{client_made}
use Rattle.world.proofs.Worlds.{lost_keeps, stepped_keeps}
use Rattle.world.proofs.cluster.Cluster.step_client.Goals as goal

pub returns-in_err-step-in-Ok-clause-world : goal.returns-in_err-step-in-Ok-clause-world
returns-in_err-step-in-Ok-clause-world c = stepped_keeps _ c.args.client _ _ c.take-node.result c.in-Ok.node c.args.input (subst IsWorld (sym c.self.view_is) c.requires.world) c.take-node.ensures.node c.take-node.ensures.left c.put.ensures c.in-Ok.ensures.state

pub returns-in_ok-step-in-Ok-clause-made : goal.returns-in_ok-step-in-Ok-clause-made
returns-in_ok-step-in-Ok-clause-made c = client_made _ _ c.args.client c.args.input c.args.event _ _ _ c.take-node.result c.in-Ok.node c.in-Ok.output c.self.view_is c.take-node.ensures.node c.take-node.ensures.left c.put.ensures c.in-Ok.ensures.state c.in-Ok.ensures.gives c.in-Ok.ensures.covered c.in-Ok.ensures.law c.in_ok-step-in-Ok.ensures

pub returns-in_ok-step-in-Ok-clause-world : goal.returns-in_ok-step-in-Ok-clause-world
returns-in_ok-step-in-Ok-clause-world c = stepped_keeps _ c.args.client _ _ c.take-node.result c.in-Ok.node c.args.input (subst IsWorld (sym c.self.view_is) c.requires.world) c.take-node.ensures.node c.take-node.ensures.left c.put.ensures c.in-Ok.ensures.state

pub returns-in-Err-clause-world : goal.returns-in-Err-clause-world
returns-in-Err-clause-world c = lost_keeps _ _ c.args.client _ (subst IsWorld (sym c.self.view_is) c.requires.world) c.take-node.ensures.left c.note_crash.ensures
