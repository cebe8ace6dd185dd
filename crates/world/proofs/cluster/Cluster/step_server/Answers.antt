use Rattle.std.proofs.Common.{◌∙◌, ap, subst, sym}
use Rattle.world.specs.World.{IsWorld, WorldValue, counted}
use Rattle.world.proofs.Makes.{server_halted, server_went_on}
use Rattle.world.proofs.Worlds.{end_keeps, server_keeps}
use Rattle.world.proofs.cluster.Cluster.step_server.Goals as goal

pub returns-in-Ok-clause-world : goal.returns-in-Ok-clause-world
returns-in-Ok-clause-world g c = server_keeps c.args.self.now c.take_server.new.self c.put_server.new.self c.args.server c.in-Some.node c.in-Ok.node c.requires.world (sym c.take_server.ensures.node ∙ c.in-Some.is) c.take_server.ensures.left c.put_server.ensures c.in-Ok.ensures.steps.id c.in-Ok.ensures.steps.steps

pub returns-in-Err-Halted-clause-made : goal.returns-in-Err-Halted-clause-made
returns-in-Err-Halted-clause-made g c = server_halted c.args.self.now c.take_server.new.self c.self.inside.members _ _ c.args.server c.args.input c.args.stop c.args.event _ c.in-Some.node c.in-Err-Halted.field-0 c.in-Err-Halted.halted _ _ (sym c.take_server.ensures.node ∙ c.in-Some.is) c.take_server.ensures.left (ap (λ (w : WorldValue). w.members) c.self.view_is) c.in-Err-Halted.field-0-is c.in-Err-Halted.ensures.stops c.step.ensures.later c.halted_step.ensures

pub returns-in-Err-Halted-clause-world : goal.returns-in-Err-Halted-clause-world
returns-in-Err-Halted-clause-world g c = subst (λ (w : WorldValue). IsWorld (counted w)) (sym c.take_server.ensures.left) (end_keeps c.args.self.now c.args.server c.requires.world)

pub returns-in-Err-OutOfMemory-clause-world : goal.returns-in-Err-OutOfMemory-clause-world
returns-in-Err-OutOfMemory-clause-world g c = subst (λ (w : WorldValue). IsWorld (counted w)) (sym c.take_server.ensures.left) (end_keeps c.args.self.now c.args.server c.requires.world)

pub returns-in-Ok-clause-made : goal.returns-in-Ok-clause-made
returns-in-Ok-clause-made g c = server_went_on c.args.self.now c.take_server.new.self c.put_server.new.self c.self.inside.members _ _ c.args.server c.args.input c.args.stop c.args.event _ c.in-Some.node c.in-Ok.node c.in-Ok.output _ _ (sym c.take_server.ensures.node ∙ c.in-Some.is) c.take_server.ensures.left (ap (λ (w : WorldValue). w.members) c.self.view_is) c.put_server.ensures c.in-Ok.ensures.steps c.step.ensures.later c.server_step.ensures
