use Rattle.tree_law.proofs.PurgeLemmas.{purged_nodes, purged_descriptors, purged_others}
use Rattle.tree_law.proofs.law.a_purge_takes_one_client.Goals as goal

pub returns-clause-nodes : goal.returns-clause-nodes
returns-clause-nodes c = purged_nodes

pub returns-clause-descriptors : goal.returns-clause-descriptors
returns-clause-descriptors c = purged_descriptors

pub returns-clause-others : goal.returns-clause-others
returns-clause-others c = purged_others
