use Rattle.revocation.specs.Waiting.{asked_at}
use Rattle.revocation.specs.Revokes.{now_at, revoke_of}
use Rattle.revocation.proofs.Walks.{gathers_next}
use Rattle.revocation.proofs.asking.revokes_to.Goals as goal

pub loop-owner-preserved : goal.loop-owner-preserved
loop-owner-preserved c =
    gathers_next (revoke_of (asked_at c.args.asked.now.entries) (now_at c.args.asked.now.entries c.args.now.now.entries)) c.args.owners.now c.loop-owner.owner-index _
    c.loop-owner.revokes c.put_item.new.list _ c.loop-owner-test.true c.loop-owner.invariant c.in_ok-revoke.ensures c.in_ok-put_item.ensures
