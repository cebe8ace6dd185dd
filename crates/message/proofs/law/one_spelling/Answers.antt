use Rattle.message.proofs.BodyLaws.{spelled}
use Rattle.message.proofs.law.one_spelling.Goals as goal

pub returns : goal.returns
returns c = spelled
