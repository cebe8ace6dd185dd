use Rattle.std.proofs.Common.{rules, ◌≤◌, subst, arith}
use Rattle.schedule.specs.Choosing.{Chooses}
use Rattle.schedule.specs.Schedule.{IsSchedule}
use Rattle.schedule.proofs.Leaving.{sooner}
use Rattle.schedule.proofs.schedule.Schedule.next.Goals as goal

-- src/schedule.rt:59:5
pub returns-in_ok-choice-in-Some-clause-sooner : goal.returns-in_ok-choice-in-Some-clause-sooner
returns-in_ok-choice-in-Some-clause-sooner c =
    let is = c.clients.ensures in
    let few : c.args.world.now.members.clients ≤ 255 = omega (arith, is) in
    let chooses : Chooses c.args.world.now c.args.self.now c.in_ok-choice-in-Some.choice c.choose_in_settle.new.self = search rules in
    (sooner c.args.world.now c.args.self.now c.choose_in_settle.new.self c.in_ok-choice-in-Some.choice (subst IsSchedule c.self.view_is c.self.invariant) few chooses).fewer

pub returns-in-None-clause-spelled : goal.returns-in-None-clause-spelled
returns-in-None-clause-spelled c =
    let is = c.clients.ensures in
    let few : c.args.world.now.members.clients ≤ 255 = omega (arith, is) in
    let chooses : Chooses c.args.world.now c.args.self.now c.choose_by_line.result c.choose_by_line.new.self = search rules in
    (sooner c.args.world.now c.args.self.now c.choose_by_line.new.self c.choose_by_line.result (subst IsSchedule c.self.view_is c.self.invariant) few chooses).spelled

pub returns-in-None-clause-sooner : goal.returns-in-None-clause-sooner
returns-in-None-clause-sooner c =
    let is = c.clients.ensures in
    let few : c.args.world.now.members.clients ≤ 255 = omega (arith, is) in
    let chooses : Chooses c.args.world.now c.args.self.now c.choose_by_line.result c.choose_by_line.new.self = search rules in
    (sooner c.args.world.now c.args.self.now c.choose_by_line.new.self c.choose_by_line.result (subst IsSchedule c.self.view_is c.self.invariant) few chooses).fewer
