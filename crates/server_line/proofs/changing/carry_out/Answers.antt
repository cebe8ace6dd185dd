use Rattle.server_line.proofs.Committed.{carried, number-kept}
use Rattle.server_line.proofs.changing.carry_out.Goals as goal

pub kept_reply-reply-requires-clause-number : goal.kept_reply-reply-requires-clause-number
kept_reply-reply-requires-clause-number c = number-kept c.args.draft.now c.commit.new.draft c.args.client c.args.number c.args.call c.requires.head c.in_ok-commit.ensures.image c.requires.planned.volume

pub returns : goal.returns
returns c =
    carried c.args.draft.now c.commit.new.draft c.answer.new.draft c.args.client c.args.number c.args.call c.kept_reply-reply.result c.requires.head c.in_ok-commit.ensures.desk (c.in_ok-commit.ensures.goes c.requires.free) c.in_ok-commit.ensures.untold
    (number-kept c.args.draft.now c.commit.new.draft c.args.client c.args.number c.args.call c.requires.head c.in_ok-commit.ensures.image c.requires.planned.volume) c.kept_reply-reply.ensures.kept (λ has. c.in_ok-answer.ensures has tt)
