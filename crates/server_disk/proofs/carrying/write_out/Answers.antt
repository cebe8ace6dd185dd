use Rattle.std.proofs.Common.{subst, sym, ◌∙◌}
use Rattle.server_disk.proofs.Ends.{halted-so, view-kept, wrote}
use Rattle.server_disk.specs.Carrying.{planned_by}
use Rattle.server_writes.specs.Halted.{AreLeft}
use Rattle.fence.specs.Port.{PortState}
use Rattle.std.proofs.Common.{ap}
use Rattle.server_disk.proofs.carrying.write_out.Goals as goal

pub halted-requires-clause-kept : goal.halted-requires-clause-kept
halted-requires-clause-kept g c = λ view. subst (AreLeft (planned_by view c.args.acts.now)) (sym c.hand_out-writes.ensures.writes)
    (c.a_step_writes_as_the_law.ensures.left (planned_by view c.args.acts.now) c.args.port.now c.write_acts-written.new.port (g.D.PortDisk.means c.args.disk.now) (g.D.PortDisk.means c.write_acts-written.new.disk)
    (g.D.PortDisk.fault_count c.args.disk.now) (g.D.PortDisk.fault_count c.write_acts-written.new.disk) c.write_acts-written.result (c.requires.ready view) (c.write_acts-written.ensures.runs view))

pub returns-in-Ok-clause-carried : goal.returns-in-Ok-clause-carried
returns-in-Ok-clause-carried g c = λ before after b a. let view = c.args.port.now.view in
    wrote view (planned_by view c.args.acts.now) c.write_acts-written.new.port.kept.writes c.hand_out-writes.result c.args.port.now.stop before after c.write_acts-written.result c.in-Ok.field-0 (g.D.PortDisk.fault_count c.write_acts-written.new.disk) c.in-Ok.is c.hand_out-writes.ensures.writes
    (c.a_step_writes_as_the_law.ensures.writes (planned_by view c.args.acts.now) c.args.port.now c.write_acts-written.new.port (g.D.PortDisk.means c.args.disk.now) (g.D.PortDisk.means c.write_acts-written.new.disk)
    (g.D.PortDisk.fault_count c.args.disk.now) (g.D.PortDisk.fault_count c.write_acts-written.new.disk) c.write_acts-written.result before after (c.requires.ready view) b a (c.write_acts-written.ensures.runs view))

pub returns-in-Ok-clause-view : goal.returns-in-Ok-clause-view
returns-in-Ok-clause-view g c = ap (λ (p : PortState). p.view) c.hand_out-writes.ensures.port
    ∙ view-kept c.args.port.now c.write_acts-written.new.port (g.D.PortDisk.means c.args.disk.now) (g.D.PortDisk.means c.write_acts-written.new.disk) (planned_by 0 c.args.acts.now) c.write_acts-written.result c.in-Ok.field-0 c.in-Ok.is
    (c.a_run_tells_what_was_written.ensures.ends c.args.port.now (g.D.PortDisk.means c.args.disk.now) (planned_by 0 c.args.acts.now) c.write_acts-written.result c.write_acts-written.new.port (g.D.PortDisk.means c.write_acts-written.new.disk) (c.write_acts-written.ensures.runs 0).makes)
    (λ made. (c.a_run_tells_what_was_written.ensures.keeps c.args.port.now made).view)

pub returns-in-Ok-clause-later : goal.returns-in-Ok-clause-later
returns-in-Ok-clause-later g c = (c.write_acts-written.ensures.runs 0).later

pub returns-in-Err-clause-carried : goal.returns-in-Err-clause-carried
returns-in-Err-clause-carried g c = λ before after b a. let view = c.args.port.now.view in
    halted-so view (planned_by view c.args.acts.now) c.write_acts-written.new.port.kept.writes c.halted.result.writes c.args.port.now.stop before after c.write_acts-written.result c.in-Err.halt (g.D.PortDisk.fault_count c.write_acts-written.new.disk) c.faults.result c.halted.result.halt
    c.in-Err.is (c.halted.ensures.writes ∙ c.hand_out-writes.ensures.writes) c.faults.ensures c.halted.ensures.halt
    (c.a_step_writes_as_the_law.ensures.writes (planned_by view c.args.acts.now) c.args.port.now c.write_acts-written.new.port (g.D.PortDisk.means c.args.disk.now) (g.D.PortDisk.means c.write_acts-written.new.disk)
    (g.D.PortDisk.fault_count c.args.disk.now) (g.D.PortDisk.fault_count c.write_acts-written.new.disk) c.write_acts-written.result before after (c.requires.ready view) b a (c.write_acts-written.ensures.runs view))

pub returns-in-Err-clause-later : goal.returns-in-Err-clause-later
returns-in-Err-clause-later g c = (c.write_acts-written.ensures.runs 0).later
