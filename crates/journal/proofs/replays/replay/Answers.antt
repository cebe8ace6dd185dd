use Rattle.journal.proofs.Stable.{replay_keeps, replay_keeps_count}
use Rattle.journal.proofs.replays.replay.Goals as goal

pub returns-clause-keeps : goal.returns-clause-keeps
returns-clause-keeps g c = λ s volume told whole h. replay_keeps s volume _ _ _ _ _ _ _ c.replay_journal.ensures told whole h

pub returns-clause-count : goal.returns-clause-count
returns-clause-count g c = replay_keeps_count _ _ _ _ _ _ _ c.replay_journal.ensures
