use Rattle.server_line.proofs.Giving.{give-follows, give-gone, give-keeps}
use Rattle.server_line.proofs.granting.give.Goals as goal

pub returns-clause-keeps : goal.returns-clause-keeps
returns-clause-keeps c =
    give-keeps c.args.draft.now c.tell.new.self c.grant.new.self c.args.client c.args.number c.args.items c.args.lacking.now c.in_ok-grant.ensures.like c.requires.tokens c.in_ok-tell.ensures.state c.in_ok-tell.ensures.acts

pub returns-clause-gone : goal.returns-clause-gone
returns-clause-gone c =
    give-gone c.args.draft.now c.tell.new.self c.grant.new.self c.args.client c.args.number c.args.items c.args.lacking.now c.in_ok-grant.ensures.like c.requires.tokens c.in_ok-tell.ensures.state c.in_ok-tell.ensures.acts

pub returns-clause-follows : goal.returns-clause-follows
returns-clause-follows c =
    give-follows c.args.draft.now c.tell.new.self c.grant.new.self c.args.client c.args.number c.args.items c.args.lacking.now c.in_ok-grant.ensures.like c.requires.tokens c.in_ok-tell.ensures.state c.in_ok-tell.ensures.acts
    c.in_ok-tell.ensures.follows
