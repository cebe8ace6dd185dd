use Rattle.reply_text.proofs.OneReply.{one_reply}
use Rattle.reply_text.proofs.PlainAnswers.{plain_answer}
use Rattle.reply_text.proofs.law.a_text_is_one_reply.Goals as goal

pub returns : goal.returns
returns c = record { one = one_reply; plain = plain_answer }
