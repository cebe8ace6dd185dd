use Rattle.outbox.proofs.Going.{put-append}
use Rattle.outbox.proofs.law.one_after_another.Goals as goal

pub returns : goal.returns
returns c = put-append
