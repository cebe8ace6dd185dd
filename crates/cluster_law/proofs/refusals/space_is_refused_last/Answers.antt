use Rattle.cluster_law.proofs.Blocked.{no-writes}
use Rattle.cluster_law.proofs.refusals.space_is_refused_last.Goals as goal

pub returns : goal.returns
returns c = λ o start server before lane number free wanted w. no-writes server (record { 0 = lane.client }) number w.refuses.want w.refuses.lacks
