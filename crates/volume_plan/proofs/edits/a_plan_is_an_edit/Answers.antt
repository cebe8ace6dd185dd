use Rattle.volume_plan.proofs.AllEdits.{plan_edit}
use Rattle.volume_plan.proofs.edits.a_plan_is_an_edit.Goals as goal

pub returns : goal.returns
returns c = λ v client number call opened is known some fits paths. plan_edit v client number call opened is (record { known = known; from_one = some; fits = fits }) paths
