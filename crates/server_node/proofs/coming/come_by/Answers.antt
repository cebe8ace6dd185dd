use Rattle.std.proofs.Common.{refl}
use Rattle.server_node.proofs.Hearing.{hears-packet}
use Rattle.server_node.proofs.coming.come_by.Goals as goal

pub returns : goal.returns
returns c = λ n node mail image.
    let heard = c.in_ok-took.ensures in
    hears-packet n c.args.packet.now c.args.mail.now c.args.image.now c.in_ok-took.field-0.took c.in_ok-took.field-0.answers _ _ c.what_is_heard_is_owed.ensures c.coming_of.ensures refl
    (record {
      took_is = heard.took;
      spelled = heard.spelled;
      answers_is = heard.answers;
      bound = heard.bound;
      between = heard.between;
      out = heard.out;
      session = heard.session;
      steps = heard.steps;
      sent = heard.sent;
    })
    node mail image
