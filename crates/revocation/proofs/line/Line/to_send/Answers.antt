use Rattle.revocation.specs.Revokes.{owners}
use Rattle.revocation.specs.Waiting.{asked_at}
use Rattle.revocation.proofs.Formed.{all_formed}
use Rattle.revocation.proofs.line.Line.to_send.Goals as goal

pub returns-clause-formed : goal.returns-clause-formed
returns-clause-formed c = λ askable. rw c.in_ok-revokes.ensures (all_formed (asked_at c.self.inside.asked.entries) c.args.blockers.now askable (owners c.args.blockers.now))
