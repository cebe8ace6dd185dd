use Rattle.std.proofs.Common.{arith}
use Rattle.message.proofs.BodyLaws.{answers_again, answers_spelled}
use Rattle.message.proofs.read.decode.Goals as goal

pub returns-clause-spelled : goal.returns-clause-spelled
returns-clause-spelled c = answers_spelled c.args.bytes.now c.message_of.result (λ i. omega (arith, c.type_inv.bytes i)) c.message_of.ensures

pub returns-clause-again : goal.returns-clause-again
returns-clause-again c = λ message good is. answers_again _ c.message_of.result message good is c.message_of.ensures
