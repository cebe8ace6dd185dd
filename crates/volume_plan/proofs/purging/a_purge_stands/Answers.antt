use Rattle.volume_plan.proofs.Led.{purge_leads}
use Rattle.volume_plan.proofs.purging.a_purge_stands.Goals as goal

pub returns : goal.returns
returns c = λ sectors v history client m below present. purge_leads sectors v history client m below present
