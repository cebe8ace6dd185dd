use Rattle.tree_law.proofs.PartNeeds.{names_needs, needs_or_lacks}
use Rattle.client_cache.specs.Known.{part_of}
use Rattle.client_cache.proofs.law.a_cache_asks_as_the_tree.Goals as goal

pub returns-clause-same : goal.returns-clause-same
returns-clause-same c = λ tree client known call agrees. names_needs tree client (part_of known) call agrees.part

pub returns-clause-lacks : goal.returns-clause-lacks
returns-clause-lacks c = λ tree client known call agrees. needs_or_lacks tree client (part_of known) call agrees.part
