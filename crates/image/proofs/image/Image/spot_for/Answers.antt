use Rattle.std.proofs.Common.{rules}
use Rattle.image.proofs.Places.{lands_here}
use Rattle.image.proofs.image.Image.spot_for.Goals as goal

pub returns-then-left-first-clause-place : goal.returns-then-left-first-clause-place
returns-then-left-first-clause-place c = (lands_here c.args.self.now c.args.shift c.args.name.now c.place_of-left.result c.first_place-first.result (search rules) c.requires.within (search rules) (search rules)).before (search rules)

pub returns-then-left-first-clause-adds : goal.returns-then-left-first-clause-adds
returns-then-left-first-clause-adds c = (lands_here c.args.self.now c.args.shift c.args.name.now c.place_of-left.result c.first_place-first.result (search rules) c.requires.within (search rules) (search rules)).adds

pub returns-else-left-first-clause-place : goal.returns-else-left-first-clause-place
returns-else-left-first-clause-place c = (lands_here c.args.self.now c.args.shift c.args.name.now c.place_of-left.result c.first_place-first.result (search rules) c.requires.within (search rules) (search rules)).after (search rules)

pub returns-else-left-first-clause-adds : goal.returns-else-left-first-clause-adds
returns-else-left-first-clause-adds c = (lands_here c.args.self.now c.args.shift c.args.name.now c.place_of-left.result c.first_place-first.result (search rules) c.requires.within (search rules) (search rules)).adds
