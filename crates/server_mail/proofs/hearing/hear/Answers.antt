use Rattle.std.proofs.Common.{ap, ◌∙◌}
use Rattle.server_mail.specs.Step.{after_coming}
use Rattle.server_mail.proofs.Coming.{hearing-out, hearing-steps, packets-opened, session-hears}
use Rattle.server_mail.proofs.hearing.hear.Goals as goal

pub returns-clause-session : goal.returns-clause-session
returns-clause-session c = λ server view client between within.
    session-hears server view c.args.mail.now _ c.args.image.now c.args.packet.now client (c.in_ok-took.ensures.state ∙ ap (after_coming c.args.mail.now c.args.packet.now) c.heard_from-from.ensures.value) between within

pub returns-clause-sent : goal.returns-clause-sent
returns-clause-sent c = λ server view client between within.
    packets-opened server view c.args.mail.now _ c.args.image.now c.args.packet.now client (c.in_ok-took.ensures.state ∙ ap (after_coming c.args.mail.now c.args.packet.now) c.heard_from-from.ensures.value) between

pub returns-clause-steps : goal.returns-clause-steps
returns-clause-steps c = λ client. hearing-steps c.args.mail.now _ c.args.packet.now _ client c.in_ok-took.ensures.state

pub returns-clause-out : goal.returns-clause-out
returns-clause-out c = λ server view.
    hearing-out server view c.args.mail.now _ c.args.image.now c.args.packet.now (c.in_ok-took.ensures.state ∙ ap (after_coming c.args.mail.now c.args.packet.now) c.heard_from-from.ensures.value)
