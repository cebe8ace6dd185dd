use Rattle.volume_plan.proofs.Led.{flush_leads}
use Rattle.volume_plan.proofs.flushing.a_flush_stands.Goals as goal

pub returns : goal.returns
returns c = λ sectors v history client flush file m due. flush_leads sectors v history client flush file m due
