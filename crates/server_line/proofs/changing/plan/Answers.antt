use Rattle.image.specs.Planning.{plan_of}
use Rattle.server_line.proofs.Changes.{plan-is}
use Rattle.server_line.proofs.changing.plan.Goals as goal

pub returns : goal.returns
returns c = record {
  plan_is = plan-is c.args.draft.now c.args.client c.args.number c.args.call.now (plan_of c.in_ok-planned.planned.plan) c.as_slice.result.now c.in_ok-opened.opened c.as_slice.ensures c.in_ok-opened.ensures c.in_ok-planned.ensures.plan;
  allowed = c.in_ok-planned.ensures.allowed;
  takes = c.in_ok-planned.ensures.takes;
  homes = c.in_ok-planned.ensures.homes;
  volume = c.clients.ensures.volume;
}
