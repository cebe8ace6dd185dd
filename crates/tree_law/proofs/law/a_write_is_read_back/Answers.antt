use Rattle.tree_law.proofs.ByteLemmas.{read_back, gap_is_zero}
use Rattle.tree_law.proofs.law.a_write_is_read_back.Goals as goal

pub returns-clause-back : goal.returns-clause-back
returns-clause-back c = read_back

pub returns-clause-gap : goal.returns-clause-gap
returns-clause-gap c = gap_is_zero
