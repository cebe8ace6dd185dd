use Rattle.tree_law.proofs.Answering.{own_answer}
use Rattle.tree_law.proofs.law.one_answer.Goals as goal

pub returns : goal.returns
returns c = own_answer
