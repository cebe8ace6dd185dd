use Rattle.volume_plan.proofs.EachChange.{change_leads}
use Rattle.volume_plan.proofs.changing.a_change_stands.Goals as goal

pub returns : goal.returns
returns c = λ sectors v history client number call opened mounted asked. change_leads sectors v history client number opened mounted call asked
