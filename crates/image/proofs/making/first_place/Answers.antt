use Rattle.image.proofs.Places.{first_fits}
use Rattle.image.proofs.making.first_place.Goals as goal

pub overflow_cast-result : goal.overflow_cast-result
overflow_cast-result c = first_fits c.args.entries.now _ c.first_empty.ensures.first c.first_empty.ensures.directory
