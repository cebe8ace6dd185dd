use Rattle.std.proofs.Common.{◌≡◌, take}
use Rattle.revocation.specs.Revokes.{owners}
use Rattle.revocation.proofs.asking.owners.Given as goal

abbrev pub invariant-loop-b : goal.invariant-loop-b
invariant-loop-b l = l.owners.keys ≡ owners (take l.b-index l.blockers)
