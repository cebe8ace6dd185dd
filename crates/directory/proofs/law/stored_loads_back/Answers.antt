use Rattle.directory.proofs.Laws.{block_follows, one_way}
use Rattle.directory.proofs.law.stored_loads_back.Goals as goal

pub returns-clause-follows : goal.returns-clause-follows
returns-clause-follows c = λ slots block sector d within s. block_follows slots block sector d within s

pub returns-clause-one : goal.returns-clause-one
returns-clause-one c = λ old a b sector s t. one_way old a b sector s t
