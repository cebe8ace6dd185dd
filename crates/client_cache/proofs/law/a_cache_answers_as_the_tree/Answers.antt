use Rattle.tree_law.proofs.PartAnswers.{part_answers}
use Rattle.client_cache.specs.Known.{part_of}
use Rattle.client_cache.proofs.TreeNeeds.{covered_both}
use Rattle.client_cache.proofs.law.a_cache_answers_as_the_tree.Goals as goal

pub returns-clause-covered : goal.returns-clause-covered
returns-clause-covered c = covered_both

pub returns-clause-answers : goal.returns-clause-answers
returns-clause-answers c = λ tree client known call agrees. part_answers tree client (part_of known) call agrees.part
