use Rattle.directory.proofs.Laws.{one_ino}
use Rattle.directory.proofs.law.one_inode_a_name.Goals as goal

pub returns : goal.returns
returns c = λ slots name i j d a b. one_ino slots name i j d a b
