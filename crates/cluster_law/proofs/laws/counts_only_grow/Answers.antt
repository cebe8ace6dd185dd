use Rattle.cluster_law.proofs.Counts.{made-grows, sent-grows, taken-grows, acked-grows}
use Rattle.cluster_law.proofs.laws.counts_only_grow.Goals as goal

pub returns-clause-made : goal.returns-clause-made
returns-clause-made c = made-grows

pub returns-clause-sent : goal.returns-clause-sent
returns-clause-sent c = sent-grows

pub returns-clause-taken : goal.returns-clause-taken
returns-clause-taken c = taken-grows

pub returns-clause-acknowledged : goal.returns-clause-acknowledged
returns-clause-acknowledged c = acked-grows
