use Rattle.std.proofs.Common.{rules, ◌∙◌}
use Rattle.image.proofs.EntryPlans.{reap_stands, reap_takes_free}
use Rattle.image.proofs.image.Image.plan_reap.Goals as goal

pub returns-clause-takes : goal.returns-clause-takes
returns-clause-takes c = reap_takes_free c.args.self.now c.args.ino _ (c.in_ok-plan.ensures.edit ∙ c.reap_of-edit.ensures.edit)

pub returns-clause-stands : goal.returns-clause-stands
returns-clause-stands c = λ sectors history m gone. reap_stands sectors c.args.self.now history c.args.ino c.in_ok-plan.plan.edit c.in_ok-plan.plan.txn (c.in_ok-plan.ensures.edit ∙ c.reap_of-edit.ensures.edit) (search rules) m c.requires.to_511 c.requires.orphan gone
