use Rattle.client_facts.proofs.EntrySteps.{flush_followed}
use Rattle.client_facts.proofs.law.a_flush_in_the_tree_is_followed.Goals as goal

pub returns : goal.returns
returns c = flush_followed
