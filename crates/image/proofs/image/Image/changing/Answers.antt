use Rattle.std.proofs.Common.{◌≡◌, IfOk, subst, sym}
use Rattle.tree_law.specs.declared.call.Call.{Call}
use Rattle.volume_plan.specs.Plans.{plan}
use Rattle.image.specs.Planning.{plan_of}
use Rattle.image.specs.declared.change_plan.ChangePlan.{ChangePlan}
use Rattle.image.proofs.image.Image.changing.Goals as goal

pub returns-in-Rename-clause-plan : goal.returns-in-Rename-clause-plan
returns-in-Rename-clause-plan c = subst (λ (call : Call). IfOk c.plan_rename.result (λ (p : ChangePlan). plan_of p ≡ plan c.args.self.now c.args.client c.args.number call c.args.opened.now)) (sym c.in-Rename.is) c.plan_rename.ensures.plan
