use Rattle.server_line.proofs.Heads.{head-waits}
use Rattle.server_line.proofs.at_head.head_of.Goals as goal

pub returns : goal.returns
returns c = head-waits c.args.draft.now c.in-Some.request.now c.requires c.in-Some.ensures.head c.in-Some.ensures.each
