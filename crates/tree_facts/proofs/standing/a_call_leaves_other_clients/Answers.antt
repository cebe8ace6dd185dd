use Rattle.tree_facts.proofs.Aside.{call_leaves, flush_leaves}
use Rattle.tree_facts.proofs.standing.a_call_leaves_other_clients.Goals as goal

pub returns-clause-call : goal.returns-clause-call
returns-clause-call c = call_leaves

pub returns-clause-flush : goal.returns-clause-flush
returns-clause-flush c = flush_leaves
