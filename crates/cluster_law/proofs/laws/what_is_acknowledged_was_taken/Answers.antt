use Rattle.cluster_law.proofs.Acks.{acked-within}
use Rattle.cluster_law.proofs.laws.what_is_acknowledged_was_taken.Goals as goal

pub returns : goal.returns
returns c = acked-within
