-- The number that digits write, digit by digit.
use Rattle.std.proofs.Common.{◌+◌, ◌*◌, ◌-◌, ◌≤◌, ℕ, List, [], ◌∷◌, arith}
use Rattle.script.specs.Numbers.{value_behind}

-- digits behind a number make no less of it
pub at_least : (front : ℕ) (digits : List ℕ) → front ≤ value_behind front digits
at_least front [] = omega arith
at_least front (digit ∷ digits) = omega (arith, at_least (front * 10 + (digit - 48)) digits)
