use Rattle.message.proofs.Paths.{slashed_more, slashed_all}
use Rattle.message.proofs.names.slashed.Goals as goal

pub loop-name-preserved : goal.loop-name-preserved
loop-name-preserved c =
    slashed_more _ _ _ _ _ _ _ _ c.loop-name-test.true c.loop-name.invariant c.name-item.is c.as_slice.ensures c.in_ok-push.ensures.items c.in_ok-extend_from_slice.ensures.items

pub returns : goal.returns
returns c = slashed_all _ _ _ c.loop-name-test.false c.loop-name.invariant
