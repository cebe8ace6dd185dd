use Rattle.volume.proofs.Each.{root_is}
use Rattle.volume.proofs.writes.empty_root.Goals as goal

pub returns-clause-allowed : goal.returns-clause-allowed
returns-clause-allowed c = root_is
