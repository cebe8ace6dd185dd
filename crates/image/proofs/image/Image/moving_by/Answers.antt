use Rattle.std.proofs.Common.{◌<◌, ℕ, List, length, subst, sym}
use Rattle.tree_law.specs.Resolve.{last_of}
use Rattle.volume.specs.Volume.{slots_of}
use Rattle.volume_edit.specs.Edit.{IsVolume}
use Rattle.volume_plan.specs.Plans.{place_of}
use Rattle.image.specs.Planning.{plan_of, touch_numbers}
use Rattle.image.proofs.Shifts.{planned, shifts}
use Rattle.image.proofs.image.Image.moving_by.Goals as goal

pub moving_plan-plan-requires-clause-from : goal.moving_plan-plan-requires-clause-from
moving_plan-plan-requires-clause-from c = (shifts c.args.self.now c.args.path.now c.args.goal.now c.args.shift (subst IsVolume c.self.view_is c.self.invariant.volume) c.requires.moves c.if-shift.false).from

pub moving_plan-plan-requires-clause-to : goal.moving_plan-plan-requires-clause-to
moving_plan-plan-requires-clause-to c = (shifts c.args.self.now c.args.path.now c.args.goal.now c.args.shift (subst IsVolume c.self.view_is c.self.invariant.volume) c.requires.moves c.if-shift.false).to

pub moving_plan-plan-requires-clause-target : goal.moving_plan-plan-requires-clause-target
moving_plan-plan-requires-clause-target c = (shifts c.args.self.now c.args.path.now c.args.goal.now c.args.shift (subst IsVolume c.self.view_is c.self.invariant.volume) c.requires.moves c.if-shift.false).target

pub moving_plan-plan-requires-clause-within : goal.moving_plan-plan-requires-clause-within
moving_plan-plan-requires-clause-within c =
    subst (λ (n : List ℕ). place_of (slots_of c.args.self.now c.args.shift.from.0) n < length (slots_of c.args.self.now c.args.shift.from.0)) (sym c.last_of-name.ensures.name)
    (shifts c.args.self.now c.args.path.now c.args.goal.now c.args.shift (subst IsVolume c.self.view_is c.self.invariant.volume) c.requires.moves c.if-shift.false).within

pub returns : goal.returns
returns c =
    planned c.args.self.now c.args.client c.args.number c.args.opened.now (touch_numbers c.args.touches) c.args.shift (last_of c.args.path.now) (last_of c.args.goal.now) c.last_of-name.result.now c.last_of.result.now
    (plan_of c.moving_plan-plan.result) (plan_of c.if_room.result) c.if-shift.false c.last_of-name.ensures.name c.last_of.ensures.name c.moving_plan-plan.ensures c.if_room.ensures
