use Rattle.cluster_law.proofs.Judged.{judged-hold}
use Rattle.cluster_law.proofs.laws.a_report_judged_is_the_hold.Goals as goal

pub returns : goal.returns
returns c = judged-hold
