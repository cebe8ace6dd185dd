use Rattle.schedule.proofs.Padding.{torn_fill}
use Rattle.schedule.proofs.stops.torn_by.Goals as goal

pub returns-in-Fill : goal.returns-in-Fill
returns-in-Fill c = torn_fill c.args.how.now c.in-Fill.byte c.filled.result c.in-Fill.is c.filled.ensures
