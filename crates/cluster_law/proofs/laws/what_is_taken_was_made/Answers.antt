use Rattle.cluster_law.proofs.Prefix.{taken-within, taken-made}
use Rattle.cluster_law.proofs.laws.what_is_taken_was_made.Goals as goal

pub returns-clause-sent : goal.returns-clause-sent
returns-clause-sent c = taken-within

pub returns-clause-made : goal.returns-clause-made
returns-clause-made c = taken-made
