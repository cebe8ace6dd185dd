use Rattle.volume_plan.proofs.PlanTouches.{nothing_touched, plan_touches}
use Rattle.volume_plan.proofs.making.a_plan_touches_what_its_change_does.Goals as goal

pub returns-clause-touched : goal.returns-clause-touched
returns-clause-touched c = λ sectors v history client number call opened mounted some. plan_touches sectors v history client number opened mounted call some

pub returns-clause-nothing : goal.returns-clause-nothing
returns-clause-nothing c = λ v client number call opened wants. nothing_touched v client number call opened wants
