use Rattle.journal.proofs.Stable.{stable}
use Rattle.journal.proofs.replays.replay_is_stable.Goals as goal

pub returns : goal.returns
returns c = λ s volume k torn whole h. stable s volume k torn whole h
