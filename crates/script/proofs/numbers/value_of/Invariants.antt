use Rattle.std.proofs.Common.{◌≡◌, drop}
use Rattle.script.specs.Numbers.{value_of, value_behind}
use Rattle.script.proofs.numbers.value_of.Given as goal

abbrev pub invariant-loop-digit : goal.invariant-loop-digit
invariant-loop-digit l = value_behind l.value (drop l.digit-index l.digits) ≡ value_of l.digits
