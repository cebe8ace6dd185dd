use Rattle.server_start.proofs.Present.{list-more, list-none}
use Rattle.server_start.proofs.listing.list_present.Goals as goal

pub loop-number-init : goal.loop-number-init
loop-number-init c = list-none c.args.image.now c.args.desk.now

pub loop-number-preserved : goal.loop-number-preserved
loop-number-preserved c = list-more c.args.image.now c.args.desk.now c.loop-number.desk _ c.loop-number.number c.loop-number.invariant c.list_if_present.ensures
