use Rattle.image.proofs.Carrying.{planned_edit, planned_stands, planned_takes}
use Rattle.image.proofs.image.Image.plan_change.Goals as goal

pub homes_of-requires : goal.homes_of-requires
homes_of-requires c = planned_edit c.args.self.now c.args.client c.args.number c.args.call.now c.args.opened.now c.in_ok-plan.plan c.changing.ensures.volume c.requires.client c.requires.number c.ranges.number.fits c.changing.ensures.paths c.in_ok-plan.ensures.plan

pub returns-clause-allowed : goal.returns-clause-allowed
returns-clause-allowed c = planned_edit c.args.self.now c.args.client c.args.number c.args.call.now c.args.opened.now c.in_ok-plan.plan c.changing.ensures.volume c.requires.client c.requires.number c.ranges.number.fits c.changing.ensures.paths c.in_ok-plan.ensures.plan

pub returns-clause-takes : goal.returns-clause-takes
returns-clause-takes c = λ kept. planned_takes c.args.self.now c.args.client c.args.number c.args.call.now c.args.opened.now c.in_ok-plan.plan c.changing.ensures.volume kept c.in_ok-plan.ensures.plan

pub returns-clause-stands : goal.returns-clause-stands
returns-clause-stands c = λ sectors history mounted asked.
    planned_stands sectors c.args.self.now history c.args.client c.args.number c.args.call.now c.args.opened.now c.in_ok-plan.plan c.in_ok-txn.txn c.in_ok-plan.ensures.plan c.in_ok-txn.ensures mounted asked
