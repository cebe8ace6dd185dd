use Rattle.std.proofs.Common.{◌≡◌, length}
use Rattle.world.proofs.Keeping.{AreNew}
use Rattle.world.proofs.clients.Clients.new.Given as goal

abbrev pub invariant-loop-number : goal.invariant-loop-number
invariant-loop-number l = record { count : length l.nodes.items ≡ l.number; new : AreNew l.nodes.items l.number }
