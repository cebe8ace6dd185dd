use Rattle.std.proofs.Common.{List, subst}
use Rattle.token_kind.specs.declared.token.Token.{Token}
use Rattle.server_line.specs.Granted.{AreAnswers}
use Rattle.server_line.proofs.Wanted.{grant-serves}
use Rattle.server_line.proofs.granting.grant.Goals as goal

pub returns-in_ok-give-in-Ok-clause-serves : goal.returns-in_ok-give-in-Ok-clause-serves
returns-in_ok-give-in-Ok-clause-serves g c = λ want head is-gap free room.
    grant-serves c.args.draft.now c.args.client c.args.number c.args.gap.now want head is-gap free room c.give.new.draft c.args.port.now.view (g.D.PortDisk.means c.args.disk.now) c.in-Ok.items
    (subst (λ (ts : List Token). AreAnswers c.args.draft.now c.args.port.now.view (g.D.PortDisk.means c.args.disk.now) c.args.client ts c.in-Ok.items) c.as_slice.ensures c.in-Ok.ensures.items)
    c.in_ok-give-in-Ok.ensures.keeps c.in_ok-give-in-Ok.ensures.image c.in_ok-give-in-Ok.ensures.gone c.in_ok-give-in-Ok.ensures.acts c.in_ok-give-in-Ok.ensures.follows c.in_ok-give-in-Ok.ensures.count
