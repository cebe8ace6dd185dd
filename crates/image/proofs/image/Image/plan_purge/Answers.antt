use Rattle.std.proofs.Common.{rules, ◌∙◌}
use Rattle.image.proofs.EntryPlans.{purge_stands, purge_takes_free}
use Rattle.image.proofs.image.Image.plan_purge.Goals as goal

pub returns-clause-takes : goal.returns-clause-takes
returns-clause-takes c = purge_takes_free c.args.self.now c.args.client _ (c.in_ok-plan.ensures.edit ∙ c.purge_of-edit.ensures.edit)

pub returns-clause-stands : goal.returns-clause-stands
returns-clause-stands c = λ sectors history m present. purge_stands sectors c.args.self.now history c.args.client _ _ (c.in_ok-plan.ensures.edit ∙ c.purge_of-edit.ensures.edit) (search rules) m c.requires present
