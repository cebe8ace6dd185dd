use Rattle.fence.proofs.RunsLemmas.{runs_one}
use Rattle.volume.proofs.writes.write_one.Goals as goal

pub returns : goal.returns
returns g c = runs_one _ _ _ _ _ _ _ _ _ c.write.ensures.writes c.write.ensures.counted c.write.ensures.later
