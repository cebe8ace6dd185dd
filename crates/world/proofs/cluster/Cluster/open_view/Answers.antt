use Rattle.std.proofs.Common.{◌∙◌, subst, sym}
use Rattle.world.specs.World.{IsWorld}
use Rattle.world.proofs.Makes.{boot_halted, server_booted}
use Rattle.world.proofs.Worlds.{booted_keeps, ended_in, opened_keeps}
use Rattle.world.proofs.cluster.Cluster.open_view.Goals as goal

pub returns-in-Ok-clause-world : goal.returns-in-Ok-clause-world
returns-in-Ok-clause-world g c = booted_keeps _ c.put_server.new.self _ c.next_view-view.result c.args.server c.in-Ok.node (subst IsWorld (sym (c.self.view_is ∙ c.end_server.ensures)) (ended_in c.args.self.now c.args.server c.requires.world)) c.next_view-view.ensures.next c.next_view-view.ensures.opened c.put_server.ensures c.in-Ok.ensures.new

pub returns-in-Err-Halted-clause-world : goal.returns-in-Err-Halted-clause-world
returns-in-Err-Halted-clause-world g c = opened_keeps _ _ c.next_view-view.result c.args.server (subst IsWorld (sym (c.self.view_is ∙ c.end_server.ensures)) (ended_in c.args.self.now c.args.server c.requires.world)) c.next_view-view.ensures.next c.next_view-view.ensures.opened

pub returns-in-Err-OutOfMemory-clause-world : goal.returns-in-Err-OutOfMemory-clause-world
returns-in-Err-OutOfMemory-clause-world g c = opened_keeps _ _ c.next_view-view.result c.args.server (subst IsWorld (sym (c.self.view_is ∙ c.end_server.ensures)) (ended_in c.args.self.now c.args.server c.requires.world)) c.next_view-view.ensures.next c.next_view-view.ensures.opened

pub returns-in-Ok-clause-made : goal.returns-in-Ok-clause-made
returns-in-Ok-clause-made g c = server_booted c.args.self.now _ c.put_server.new.self _ c.next_view-view.result _ _ c.args.server c.args.stop _ c.in-Ok.node c.in-Ok.output _ _ (c.self.view_is ∙ c.end_server.ensures) c.next_view-view.ensures.next c.next_view-view.ensures.opened c.put_server.ensures c.in-Ok.ensures.new c.in-Ok.ensures.ends c.server_step.ensures

pub returns-in-Err-Halted-clause-made : goal.returns-in-Err-Halted-clause-made
returns-in-Err-Halted-clause-made g c = boot_halted c.args.self.now _ _ c.next_view-view.result _ _ c.args.server c.args.stop _ c.in-Err-Halted.field-0 c.in-Err-Halted.halted _ _ (c.self.view_is ∙ c.end_server.ensures) c.next_view-view.ensures.next c.next_view-view.ensures.opened c.in-Err-Halted.field-0-is c.in-Err-Halted.ensures.ends c.halted_step.ensures
