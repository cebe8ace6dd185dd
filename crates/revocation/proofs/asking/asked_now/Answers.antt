use Rattle.token_kind.specs.declared.«class».Class.TheVariants.{Names}
use Rattle.token_kind.specs.declared.hold.Hold.TheVariants.{None as Nothing}
use Rattle.revocation.specs.Revokes.{now_at}
use Rattle.revocation.proofs.Walks.{asked_more}
use Rattle.revocation.proofs.asking.asked_now.Goals as goal

pub loop-b-preserved : goal.loop-b-preserved
loop-b-preserved c =
    λ q.
    asked_more c.args.asked.now.entries c.args.blockers.now c.loop-b.b-index (record { client = record { 0 = 0 }; ino = record { 0 = 0 }; «class» = Names; asked = Nothing })
    (now_at c.args.asked.now.entries c.loop-b.now.entries q) (now_at c.args.asked.now.entries c.ask_over.new.now.entries q) q c.loop-b-test.true (c.loop-b.invariant q) (c.in_ok-ask_over.ensures q)
