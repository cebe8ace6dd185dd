use Rattle.change_reply.proofs.ReplyLemmas.{lengths}
use Rattle.change_reply.proofs.law.one_or_five.Goals as goal

pub returns : goal.returns
returns c = lengths
