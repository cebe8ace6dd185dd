use Rattle.std.proofs.Common.{◌+◌, ◌*◌, ◌-◌, drop, get_or, arith}
use Rattle.std.proofs.lemmas.List.{at_drop_more}
use Rattle.script.specs.Numbers.{value_behind}
use Rattle.script.proofs.Values.{at_least}
use Rattle.script.proofs.numbers.value_of.Goals as goal

pub returns-in-None : goal.returns-in-None
returns-in-None c =
    let next = get_or c.args.digits.now c.loop-digit.digit-index 0 in
    let over = c.in-None.ensures in
    let step = at_drop_more (value_behind c.loop-digit.value) c.args.digits.now c.loop-digit.digit-index 0 c.loop-digit-test.true in
    omega (arith, over, step, c.loop-digit.invariant, at_least (c.loop-digit.value * 10 + (next - 48)) (drop (c.loop-digit.digit-index + 1) c.args.digits.now))
