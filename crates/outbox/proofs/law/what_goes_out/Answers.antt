use Rattle.outbox.proofs.Going.{put-out}
use Rattle.outbox.proofs.law.what_goes_out.Goals as goal

pub returns : goal.returns
returns c = put-out
