use Rattle.cluster_law.proofs.Blocked.{others-apart, own-unasked}
use Rattle.cluster_law.proofs.refusals.a_grant_comes_after_what_blocks_it.Goals as goal

pub returns-clause-others : goal.returns-clause-others
returns-clause-others c = λ o start server before lane number items item other w member lt apart. others-apart server (record { 0 = lane.client }) number items item other w.grants member lt apart

pub returns-clause-own : goal.returns-clause-own
returns-clause-own c = λ o start server before lane number items item w member. own-unasked server (record { 0 = lane.client }) number items item w.grants member
