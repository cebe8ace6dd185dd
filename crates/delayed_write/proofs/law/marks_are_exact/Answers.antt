use Rattle.delayed_write.proofs.MarkLemmas.{shrink_exact, write_exact}
use Rattle.delayed_write.proofs.law.marks_are_exact.Goals as goal

pub returns-clause-write : goal.returns-clause-write
returns-clause-write c = write_exact

pub returns-clause-shrink : goal.returns-clause-shrink
returns-clause-shrink c = shrink_exact
