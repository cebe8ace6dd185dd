use Rattle.tree_facts.proofs.OneNameKept.{history_taken, history_one}
use Rattle.tree_facts.proofs.one_name.an_inode_has_one_name.Goals as goal

pub returns-clause-taken : goal.returns-clause-taken
returns-clause-taken c = history_taken

pub returns-clause-one : goal.returns-clause-one
returns-clause-one c = history_one
