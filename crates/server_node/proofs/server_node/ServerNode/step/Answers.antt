use Rattle.std.proofs.Common.{◌<◌, ◌^◌, Ok, Err, refl, subst, sym, ap, ◌∙◌, List}
use Rattle.fence.specs.Port.{PortState}
use Rattle.server_draft.specs.declared.act.Act.{Act}
use Rattle.server_mail.specs.Step.{HasRoom}
use Rattle.server_node.specs.Node.{NodeValue, view_of}
use Rattle.server_node.specs.Parts.{Sends}
use Rattle.server_node.specs.Step.{Stops}
use Rattle.server_node.proofs.Refusing.{CarriedSo, stops-unwritten, stops-written}
use Rattle.server_node.proofs.Stepping.{node-stays, room-to-send, steps-of, steps-on}
use Rattle.server_node.proofs.server_node.ServerNode.step.Goals as goal

pub plan-requires : goal.plan-requires
plan-requires g c =
    let n : NodeValue = record { id = c.self.inside.id; port = c.self.inside.port; desk = c.self.inside.desk; image = c.self.inside.image; mail = c.self.inside.mail; steps = c.self.inside.steps } in
    (c.in_ok-coming.ensures n c.self.invariant refl refl).can

pub returns-in-Err-clause-stops : goal.returns-in-Err-clause-stops
returns-in-Err-clause-stops g c =
    let n : NodeValue = record { id = c.self.inside.id; port = c.self.inside.port; desk = c.self.inside.desk; image = c.self.inside.image; mail = c.self.inside.mail; steps = c.self.inside.steps } in
    let h = c.in_ok-coming.ensures n c.self.invariant refl refl in
    subst (λ (k : NodeValue). Stops k c.args.members.now c.args.input c.args.stop (g.D.PortDisk.means c.args.disk.now) (g.D.PortDisk.fault_count c.args.disk.now) c.in-Err.error (g.D.PortDisk.means c.plan.new.disk) (g.D.PortDisk.fault_count c.plan.new.disk)) c.self.view_is
    (stops-unwritten n c.args.members.now c.args.input c.args.stop (g.D.PortDisk.means c.args.disk.now) (g.D.PortDisk.means c.plan.new.disk) (g.D.PortDisk.fault_count c.args.disk.now) (g.D.PortDisk.fault_count c.plan.new.disk) c.in_ok-coming.field-0.coming c.in-Err.error
    h.coming c.in-Err.ensures.same c.in-Err.ensures.later c.in-Err.ensures.stops)

pub send-requires-clause-steps : goal.send-requires-clause-steps
send-requires-clause-steps g c =
    let n : NodeValue = record { id = c.self.inside.id; port = c.self.inside.port; desk = c.self.inside.desk; image = c.self.inside.image; mail = c.self.inside.mail; steps = c.self.inside.steps } in
    let h = c.in_ok-coming.ensures n c.self.invariant refl refl in
    subst (HasRoom c.come.new.mail) (sym c.as_slice.ensures.acts)
    (room-to-send n c.args.input c.in_ok-coming.field-0 c.come.new.mail c.in-Ok.planned.draft c.self.invariant (subst (λ (k : NodeValue). k.steps < 2 ^ 48) (sym c.self.view_is) c.requires) h c.in-Ok.ensures.few)

pub send-requires-clause-answers : goal.send-requires-clause-answers
send-requires-clause-answers g c =
    let n : NodeValue = record { id = c.self.inside.id; port = c.self.inside.port; desk = c.self.inside.desk; image = c.self.inside.image; mail = c.self.inside.mail; steps = c.self.inside.steps } in
    (c.in_ok-coming.ensures n c.self.invariant refl refl).bound

pub returns-in-Err-carry_out-clause-stops : goal.returns-in-Err-carry_out-clause-stops
returns-in-Err-carry_out-clause-stops g c =
    let n : NodeValue = record { id = c.self.inside.id; port = c.self.inside.port; desk = c.self.inside.desk; image = c.self.inside.image; mail = c.self.inside.mail; steps = c.self.inside.steps } in
    let h = c.in_ok-coming.ensures n c.self.invariant refl refl in
    let done = c.in-Err-carry_out.ensures in
    let planned = c.in-Ok.planned in
    subst (λ (k : NodeValue). Stops k c.args.members.now c.args.input c.args.stop (g.D.PortDisk.means c.args.disk.now) (g.D.PortDisk.fault_count c.args.disk.now) c.in-Err-carry_out.error (g.D.PortDisk.means c.carry_out.new.disk) (g.D.PortDisk.fault_count c.carry_out.new.disk)) c.self.view_is
    (stops-written n c.args.members.now c.args.input c.args.stop (g.D.PortDisk.means c.args.disk.now) (g.D.PortDisk.means c.plan.new.disk) (g.D.PortDisk.means c.carry_out.new.disk) (g.D.PortDisk.fault_count c.args.disk.now) (g.D.PortDisk.fault_count c.plan.new.disk) (g.D.PortDisk.fault_count c.carry_out.new.disk)
    c.in_ok-coming.field-0.coming planned c.in-Err-carry_out.error h.coming c.in-Ok.ensures.planned c.in-Ok.ensures.same c.in-Ok.ensures.later
    (subst (λ (acts : List Act). CarriedSo n.port.view acts c.args.stop (g.D.PortDisk.means c.plan.new.disk) (g.D.PortDisk.fault_count c.plan.new.disk) (Err c.in-Err-carry_out.error) (g.D.PortDisk.means c.carry_out.new.disk) (g.D.PortDisk.fault_count c.carry_out.new.disk)) c.as_slice-2.ensures.acts
    (subst (λ (p : PortState). CarriedSo p.view c.as_slice-2.result.now p.stop (g.D.PortDisk.means c.plan.new.disk) (g.D.PortDisk.fault_count c.plan.new.disk) (Err c.in-Err-carry_out.error) (g.D.PortDisk.means c.carry_out.new.disk) (g.D.PortDisk.fault_count c.carry_out.new.disk)) c.arm.ensures
    (record { carries = done.carried; entries = done.entries; room = done.memory }))))

pub invariant_of-result : goal.invariant_of-result
invariant_of-result g c =
    let n : NodeValue = record { id = c.self.inside.id; port = c.self.inside.port; desk = c.self.inside.desk; image = c.self.inside.image; mail = c.self.inside.mail; steps = c.self.inside.steps } in
    let h = c.in_ok-coming.ensures n c.self.invariant refl refl in
    node-stays n c.args.input c.in_ok-coming.field-0 c.come.new.mail c.send.new.mail c.in-Ok.planned.draft c.in_ok-sent.sent c.carry_out.new.port c.self.invariant h c.in-Ok.ensures.few
    (subst (λ (acts : List Act). Sends n.id (view_of n) c.come.new.mail acts c.in_ok-coming.field-0.answers c.in_ok-sent.sent c.send.new.mail) c.as_slice.ensures.acts (c.in_ok-sent.ensures n.id (view_of n) h.between h.out))
    (c.in-Ok-carry_out.ensures.view ∙ ap (λ (p : PortState). p.view) c.arm.ensures)

pub returns-clause-steps : goal.returns-clause-steps
returns-clause-steps g c =
    let n : NodeValue = record { id = c.self.inside.id; port = c.self.inside.port; desk = c.self.inside.desk; image = c.self.inside.image; mail = c.self.inside.mail; steps = c.self.inside.steps } in
    let h = c.in_ok-coming.ensures n c.self.invariant refl refl in
    let done = c.in-Ok-carry_out.ensures in
    let planned = c.in-Ok.planned in
    steps-of n c.args.self c.args.members.now c.args.input c.args.stop (g.D.PortDisk.means c.args.disk.now) (g.D.PortDisk.fault_count c.args.disk.now) _ _ (g.D.PortDisk.means c.carry_out.new.disk) (g.D.PortDisk.fault_count c.carry_out.new.disk) c.self.view_is
    (steps-on n c.args.members.now c.args.input c.args.stop (g.D.PortDisk.means c.args.disk.now) (g.D.PortDisk.means c.plan.new.disk) (g.D.PortDisk.means c.carry_out.new.disk) (g.D.PortDisk.fault_count c.args.disk.now) (g.D.PortDisk.fault_count c.plan.new.disk) (g.D.PortDisk.fault_count c.carry_out.new.disk)
    c.in_ok-coming.field-0 c.come.new.mail c.send.new.mail planned c.in_ok-sent.sent c.carry_out.new.port c.in-Ok-carry_out.carried
    h c.in-Ok.ensures.planned c.as_slice.ensures.each
    (subst (λ (acts : List Act). Sends n.id (view_of n) c.come.new.mail acts c.in_ok-coming.field-0.answers c.in_ok-sent.sent c.send.new.mail) c.as_slice.ensures.acts (c.in_ok-sent.ensures n.id (view_of n) h.between h.out))
    c.in-Ok.ensures.same c.in-Ok.ensures.later
    (done.view ∙ ap (λ (p : PortState). p.view) c.arm.ensures)
    (subst (λ (acts : List Act). CarriedSo n.port.view acts c.args.stop (g.D.PortDisk.means c.plan.new.disk) (g.D.PortDisk.fault_count c.plan.new.disk) (Ok c.in-Ok-carry_out.carried) (g.D.PortDisk.means c.carry_out.new.disk) (g.D.PortDisk.fault_count c.carry_out.new.disk)) c.as_slice-2.ensures.acts
    (subst (λ (p : PortState). CarriedSo p.view c.as_slice-2.result.now p.stop (g.D.PortDisk.means c.plan.new.disk) (g.D.PortDisk.fault_count c.plan.new.disk) (Ok c.in-Ok-carry_out.carried) (g.D.PortDisk.means c.carry_out.new.disk) (g.D.PortDisk.fault_count c.carry_out.new.disk)) c.arm.ensures
    (record { carries = done.carried; entries = done.entries; room = done.memory }))))
