use Rattle.std.proofs.Common.{◌≡◌, take}
use Rattle.std.specs.List.{filter_map}
use Rattle.revocation.specs.Waiting.{asked_at}
use Rattle.revocation.specs.Revokes.{now_at, revoke_of}
use Rattle.revocation.proofs.asking.revokes_to.Given as goal

abbrev pub invariant-loop-owner : goal.invariant-loop-owner
invariant-loop-owner l = l.revokes ≡ filter_map (revoke_of (asked_at l.asked.entries) (now_at l.asked.entries l.now.entries)) (take l.owner-index l.owners)
