use Rattle.std.proofs.Common.{◌≡◌, false}
use Rattle.token_kind.specs.declared.«class».Class.TheVariants.{Open}
use Rattle.server_removals.specs.Removals.{is_held_by_some}
use Rattle.server_removals.proofs.Deserting.{is-deserted, none-deserted}
use Rattle.server_removals.proofs.orphans.least_deserted.Goals as goal

pub returns-then-not-is_held_by_some-clause-value : goal.returns-then-not-is_held_by_some-clause-value
returns-then-not-is_held_by_some-clause-value c =
    let closed : is_held_by_some c.args.desk.now.collecting.table c.in-Some.ino Open ≡ false = (cc) in
    is-deserted c.args.image.now c.args.desk.now c.loop-ino.from.0 c.in-Some.ino c.loop-ino.invariant c.in-Some.ensures.found closed

pub returns-clause-value : goal.returns-clause-value
returns-clause-value c = none-deserted c.args.image.now c.args.desk.now c.loop-ino.from.0 c.loop-ino.invariant c.in_default.ensures.none
