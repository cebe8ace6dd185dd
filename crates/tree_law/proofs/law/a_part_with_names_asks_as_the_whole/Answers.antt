use Rattle.tree_law.proofs.PartNeeds.{names_needs, needs_or_lacks}
use Rattle.tree_law.proofs.law.a_part_with_names_asks_as_the_whole.Goals as goal

pub returns-clause-same : goal.returns-clause-same
returns-clause-same c = names_needs

pub returns-clause-lacks : goal.returns-clause-lacks
returns-clause-lacks c = needs_or_lacks
