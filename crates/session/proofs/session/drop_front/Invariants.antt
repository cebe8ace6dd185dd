use Rattle.std.proofs.Common.{◌≡◌, drop}
use Rattle.session.proofs.session.drop_front.Given as goal

abbrev pub invariant-loop : goal.invariant-loop
invariant-loop l = l.bodies.items ≡ drop l.counter l.fn.bodies.items
