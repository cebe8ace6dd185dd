use Rattle.std.proofs.lemmas.Bool.{lt-ltb}
use Rattle.cluster_law.proofs.Answered.{answered}
use Rattle.cluster_law.proofs.laws.a_heard_packet_is_answered.Goals as goal

pub returns : goal.returns
returns c = λ w lane s earlier p k speaking runs heard lt silent. answered w lane s earlier p k speaking runs heard (lt-ltb 0 p.seq lt) silent
