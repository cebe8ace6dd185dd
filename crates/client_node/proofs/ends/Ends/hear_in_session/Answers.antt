use Rattle.std.proofs.Common.{ap, subst, sym, ◌∙◌, ◌&&◌, nat_lt}
use Rattle.session.specs.Session.{is_of_session}
use Rattle.client_node.specs.Node.{NodeValue}
use Rattle.client_node.specs.Step.{GivesBack}
use Rattle.client_node.proofs.Turns.{gives_by}
use Rattle.client_node.proofs.ends.Ends.hear_in_session.Goals as goal

pub returns-clause-gives : goal.returns-clause-gives
returns-clause-gives c = subst (λ (n : NodeValue). GivesBack n c.args.packet.now c.args.message (record { sent = c.acknowledge.new.sent; answer = c.in_ok-output.output.answer; entry = c.in_ok-output.output.entry })) c.self.view_is (
    let taken = c.in_ok-taken.ensures in
    let made = c.in_ok-made.ensures in
    let sent = c.in_ok-output.ensures in
    gives_by _ c.take.new.self c.args.packet.now c.args.message c.on_packet.new.self c.in_ok-taken.taken.body c.is_some-next.result c.owes-owes.result c.bare_ack-bare.result c.in_ok-taken.taken.opened c.in_ok-output.output.sent c.in_ok-made.made _
    (c.owes-owes.ensures ∙ ap (λ (n : NodeValue). is_of_session n.session c.args.packet.now && nat_lt 0 c.args.packet.now.seq) (sym c.self.view_is)) taken.new taken.body taken.opened c.bare_ack-bare.ensures c.is_some-next.ensures
    made.state made.made sent.sent c.in_ok-acknowledge.ensures sent.answer sent.entry)
