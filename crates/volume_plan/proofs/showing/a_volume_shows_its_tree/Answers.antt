use Rattle.tree_law.specs.Legal.{tree_of}
use Rattle.volume_plan.proofs.Removals.{stand_nodes}
use Rattle.volume_plan.proofs.ShownAnswers.{same_answer}
use Rattle.volume_plan.proofs.Similar.{same_needs, same_resolved, same_touches}
use Rattle.volume_plan.proofs.showing.a_volume_shows_its_tree.Goals as goal

pub returns-clause-resolved : goal.returns-clause-resolved
returns-clause-resolved c = λ sectors v history path mounted. (same_resolved sectors v (tree_of history) mounted.volume (stand_nodes sectors v history mounted) path).same

pub returns-clause-answered : goal.returns-clause-answered
returns-clause-answered c = λ sectors v history client call mounted change. same_answer sectors v (tree_of history) mounted.volume (stand_nodes sectors v history mounted) client call change

pub returns-clause-touched : goal.returns-clause-touched
returns-clause-touched c = λ sectors v history call mounted. same_touches sectors v (tree_of history) mounted.volume (stand_nodes sectors v history mounted) call

pub returns-clause-needed : goal.returns-clause-needed
returns-clause-needed c = λ sectors v history want mounted. same_needs sectors v (tree_of history) mounted.volume (stand_nodes sectors v history mounted) want
