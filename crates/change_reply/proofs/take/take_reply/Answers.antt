use Rattle.std.proofs.Common.{◌∙◌, sym, ap}
use Rattle.change_reply.specs.ReplyAt.{reply_at}
use Rattle.change_reply.proofs.ReplyLemmas.{reply_again, read_is, not_read}
use Rattle.change_reply.proofs.take.take_reply.Goals as goal

pub returns-in-Ok-clause-again : goal.returns-in-Ok-clause-again
returns-in-Ok-clause-again c = λ reply rest is e. read_is _ _ _ _ (sym c.in-Ok.ensures.ok ∙ ap reply_at e ∙ reply_again reply rest is)

pub returns-in-Err-clause-again : goal.returns-in-Err-clause-again
returns-in-Err-clause-again c = λ reply rest is e. not_read _ _ (sym c.in-Err.ensures.bad ∙ ap reply_at e ∙ reply_again reply rest is)
