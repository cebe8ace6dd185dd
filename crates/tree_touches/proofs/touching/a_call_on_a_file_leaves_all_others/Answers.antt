use Rattle.tree_touches.proofs.Others.{call_leaves, flush_leaves}
use Rattle.tree_touches.proofs.touching.a_call_on_a_file_leaves_all_others.Goals as goal

pub returns-clause-call : goal.returns-clause-call
returns-clause-call c = call_leaves

pub returns-clause-flush : goal.returns-clause-flush
returns-clause-flush c = flush_leaves
