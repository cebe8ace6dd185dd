use Rattle.tree_facts.proofs.Whole.{history_whole, history_bytes, history_kept}
use Rattle.tree_facts.proofs.law.a_flushed_file_lasts_as_it_is.Goals as goal

pub returns-clause-whole : goal.returns-clause-whole
returns-clause-whole c = history_whole

pub returns-clause-bytes : goal.returns-clause-bytes
returns-clause-bytes c = history_bytes

pub returns-clause-all : goal.returns-clause-all
returns-clause-all c = history_kept
