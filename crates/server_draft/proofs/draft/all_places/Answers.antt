use Rattle.server_draft.specs.Acts.{places}
use Rattle.server_draft.proofs.Writing.{places-more}
use Rattle.server_draft.proofs.draft.all_places.Goals as goal

pub loop-act-init : goal.loop-act-init
unfolding places
loop-act-init c = c.new-writes.ensures.items

pub loop-act-preserved : goal.loop-act-preserved
loop-act-preserved c = places-more c.args.acts.now c.loop-act.act-index _ c.act-item.result _ _ c.loop-act-test.true c.loop-act.invariant c.act-item.is c.in_ok-put_places.ensures
