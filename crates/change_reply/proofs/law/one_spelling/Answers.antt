use Rattle.std.proofs.Common.{◌∙◌, sym, ap}
use Rattle.change_reply.specs.ReplyAt.{reply_at}
use Rattle.change_reply.proofs.ReplyLemmas.{reply_again, same_read}
use Rattle.change_reply.proofs.law.one_spelling.Goals as goal

pub returns : goal.returns
returns c = λ a b x y is_a is_b e. same_read a b x y (sym (reply_again a x is_a) ∙ ap reply_at e ∙ reply_again b y is_b)
