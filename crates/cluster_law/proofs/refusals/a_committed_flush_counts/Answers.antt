use Rattle.std.proofs.Common.{if◌then◌else◌, ap, nat_le, nat_lt}
use Rattle.std.proofs.lemmas.Bool.{le-leb, lt-ltb}
use Rattle.cluster_law.specs.ServerState.{last_flush}
use Rattle.cluster_law.proofs.RuledOut.{both-held}
use Rattle.cluster_law.proofs.refusals.a_committed_flush_counts.Goals as goal

pub returns : goal.returns
returns c = λ server client reported some within.
    ap (λ b. if b then reported.leave else reported.token.hold) (both-held (nat_lt 0 reported.flush) (nat_le reported.flush (last_flush server client)) (lt-ltb 0 reported.flush some) (le-leb reported.flush (last_flush server client) within))
