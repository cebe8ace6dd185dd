use Rattle.std.proofs.Common.{◌∙◌, sym, rules}
use Rattle.change_reply.proofs.ReplyLemmas.{reply_of_none, reply_of_eleven, reply_of_byte}
use Rattle.change_reply.proofs.take.reply_of.Goals as goal

pub returns-in_default-clause-bad : goal.returns-in_default-clause-bad
returns-in_default-clause-bad c = reply_of_none _ (search rules)

pub returns-in-Ok-take_no_space-clause-ok : goal.returns-in-Ok-take_no_space-clause-ok
returns-in-Ok-take_no_space-clause-ok c = reply_of_eleven _ _ _ c.in-Ok.ensures.taken c.if-byte-eq11.true ∙ c.in-Ok-take_no_space.ensures.ok

pub returns-in-Err-clause-bad : goal.returns-in-Err-clause-bad
returns-in-Err-clause-bad c = reply_of_eleven _ _ _ c.in-Ok.ensures.taken c.if-byte-eq11.true ∙ c.in-Err.ensures.bad

pub returns-in-Some-clause-ok : goal.returns-in-Some-clause-ok
returns-in-Some-clause-ok c = reply_of_byte _ _ _ _ c.in-Ok.ensures.taken c.if-byte-eq11.false (sym c.in-Some.is ∙ c.plain_reply.ensures)

pub returns-in-None-clause-bad : goal.returns-in-None-clause-bad
returns-in-None-clause-bad c = reply_of_byte _ _ _ _ c.in-Ok.ensures.taken c.if-byte-eq11.false (sym c.in-None.is ∙ c.plain_reply.ensures)
