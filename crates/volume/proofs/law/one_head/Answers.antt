use Rattle.volume.proofs.HeadLemmas.{same_head}
use Rattle.volume.proofs.law.one_head.Goals as goal

pub returns-clause-read : goal.returns-clause-read
returns-clause-read c = λ sector a b s t. same_head sector a b s t
