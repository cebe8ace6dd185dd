use Rattle.tree_facts.proofs.Keeping.{called, flushing, flushing_other, purging}
use Rattle.tree_facts.proofs.LastFlush.{history_lasts}
use Rattle.tree_facts.proofs.law.kept_is_what_flushes_leave.Goals as goal

pub returns-clause-call : goal.returns-clause-call
returns-clause-call c = called

pub returns-clause-flush : goal.returns-clause-flush
returns-clause-flush c = flushing

pub returns-clause-others : goal.returns-clause-others
returns-clause-others c = flushing_other

pub returns-clause-purge : goal.returns-clause-purge
returns-clause-purge c = purging

pub returns-clause-history : goal.returns-clause-history
returns-clause-history c = history_lasts
