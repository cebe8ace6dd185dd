use Rattle.std.proofs.Common.{sym}
use Rattle.volume_plan.specs.Shown.{shown}
use Rattle.image.proofs.WalkNeeds.{needs_end}
use Rattle.image.proofs.image.Image.put_walk.Goals as goal

pub returns-in-Err : goal.returns-in-Err
returns-in-Err c =
    needs_end (shown c.args.self.now) _ _ _ _ _ _ _ _ _ c.loop-name-test.true c.name-item.is (sym c.in-Err.ensures) c.node.ensures.node c.in_ok-put_look.ensures c.loop-name.invariant
