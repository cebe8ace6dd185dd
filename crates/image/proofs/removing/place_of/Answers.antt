use Rattle.image.proofs.Places.{absent_place, place_is}
use Rattle.image.proofs.removing.place_of.Goals as goal

pub returns-in-Some : goal.returns-in-Some
returns-in-Some c = place_is c.args.entries.now c.args.name.now _ c.in-Some.ensures.directory c.in-Some.ensures.found

pub returns-in-None : goal.returns-in-None
returns-in-None c = absent_place c.args.entries.now c.args.name.now c.in-None.ensures.absent
