use Rattle.tree_law.proofs.PartAnswers.{part_answers}
use Rattle.tree_law.proofs.PartNeeds.{part_needs}
use Rattle.tree_law.proofs.law.a_part_answers_as_the_whole.Goals as goal

pub returns-clause-answers : goal.returns-clause-answers
returns-clause-answers c = part_answers

pub returns-clause-needs : goal.returns-clause-needs
returns-clause-needs c = part_needs
