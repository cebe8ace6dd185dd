use Rattle.directory.proofs.Loads.{same_block}
use Rattle.directory.proofs.law.one_block.Goals as goal

pub returns-clause-read : goal.returns-clause-read
returns-clause-read c = λ sector a b s t. same_block sector a b s t
