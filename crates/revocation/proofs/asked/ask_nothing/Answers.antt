use Rattle.revocation.proofs.Drops.{asked_at-without_client}
use Rattle.revocation.proofs.asked.ask_nothing.Goals as goal

pub returns : goal.returns
returns c = λ q. rw c.drop_keys.ensures (asked_at-without_client c.args.c _ q)
