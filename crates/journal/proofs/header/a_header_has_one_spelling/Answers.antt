use Rattle.journal.proofs.Spelling.{same_homes, one_spelling}
use Rattle.journal.proofs.header.a_header_has_one_spelling.Goals as goal

pub returns-clause-same : goal.returns-clause-same
returns-clause-same c = λ some others a b e. same_homes some others a b e

pub returns-clause-spelled : goal.returns-clause-spelled
returns-clause-spelled c = λ header homes long fits good e. one_spelling header homes long fits good e
