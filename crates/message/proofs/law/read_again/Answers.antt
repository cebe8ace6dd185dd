use Rattle.message.proofs.BodyLaws.{again}
use Rattle.message.proofs.law.read_again.Goals as goal

pub returns : goal.returns
returns c = again
