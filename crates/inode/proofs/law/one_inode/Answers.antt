use Rattle.inode.proofs.InodeLemmas.{same_inode}
use Rattle.inode.proofs.law.one_inode.Goals as goal

pub returns-clause-read : goal.returns-clause-read
returns-clause-read c = λ sector a b spells_a spells_b. same_inode sector a b spells_a spells_b
