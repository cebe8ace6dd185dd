use Rattle.tree_facts.proofs.Reading.{reads_back, gap_reads_zero}
use Rattle.tree_facts.proofs.law.a_read_after_a_write.Goals as goal

pub returns-clause-back : goal.returns-clause-back
returns-clause-back c = reads_back

pub returns-clause-gap : goal.returns-clause-gap
returns-clause-gap c = gap_reads_zero
