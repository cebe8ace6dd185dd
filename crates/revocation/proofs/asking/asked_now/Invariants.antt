use Rattle.std.proofs.Common.{◌≡◌, take}
use Rattle.token_table.specs.declared.hold_key.HoldKey.{HoldKey}
use Rattle.revocation.specs.Revokes.{asked_after, now_at}
use Rattle.revocation.proofs.asking.asked_now.Given as goal

abbrev pub invariant-loop-b : goal.invariant-loop-b
invariant-loop-b l = (q : HoldKey) → now_at l.asked.entries l.now.entries q ≡ asked_after l.asked.entries (take l.b-index l.blockers) q
