use Rattle.volume_plan.proofs.Led.{reaping_stands}
use Rattle.volume_plan.proofs.Reaping.{reap_edits}
use Rattle.volume_plan.proofs.purging.a_reaping_stands.Goals as goal

pub returns-clause-edit : goal.returns-clause-edit
returns-clause-edit c = λ sectors v history ino inode m there file. reap_edits v ino inode m.volume there file

pub returns-clause-stands : goal.returns-clause-stands
returns-clause-stands c = λ sectors v history ino inode homes m there file gone are. reaping_stands sectors v history ino inode homes m there file gone are
