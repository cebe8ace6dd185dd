use Rattle.std.proofs.Common.{arith}
use Rattle.change_reply.proofs.ReplyLemmas.{reply_takes, weaken}
use Rattle.change_reply.proofs.take.spelled_reply_of.Goals as goal

pub returns-clause-taken : goal.returns-clause-taken
returns-clause-taken c = weaken c.reply_of.result (λ x e. reply_takes _ _ _ (λ i. omega (arith, c.type_inv.bytes i)) e) c.reply_of.ensures.ok
