use Rattle.server_line.proofs.Changes.{answer-serves}
use Rattle.server_line.proofs.changing.answer.Goals as goal

pub returns : goal.returns
returns c = λ has answers well.
    answer-serves c.args.draft.now c.tell.new.self c.args.client c.args.message c.drop_head.new.self c.drop_head.ensures.state c.drop_head.ensures.like c.in_ok-tell.ensures.state c.in_ok-tell.ensures.acts c.in_ok-tell.ensures.follows c.in_ok-tell.ensures.count
    has answers well
