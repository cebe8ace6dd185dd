use Rattle.std.proofs.Common.{rules, ◌∙◌}
use Rattle.image.proofs.EntryPlans.{data_goes, flush_stands, flush_takes_of}
use Rattle.image.proofs.image.Image.plan_flush.Goals as goal

pub returns-clause-goes : goal.returns-clause-goes
returns-clause-goes c = data_goes c.args.self.now c.args.flush.now _ (search rules)

pub returns-clause-takes : goal.returns-clause-takes
returns-clause-takes c = λ kept. flush_takes_of c.args.self.now c.args.client c.args.flush.now _ (c.in_ok-plan.ensures.edit ∙ c.flush_of-edit.ensures.edit) c.flush_of-edit.ensures.volume kept c.requires.is c.requires.file c.requires.enough

pub returns-clause-stands : goal.returns-clause-stands
returns-clause-stands c = λ sectors history file m due. flush_stands sectors c.args.self.now history c.args.client c.args.flush.now file _ _ _ (search rules) (c.in_ok-plan.ensures.edit ∙ c.flush_of-edit.ensures.edit) (search rules) m due
