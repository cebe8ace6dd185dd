use Rattle.volume.specs.Format.{head_sector}
use Rattle.volume.proofs.writes.head_with.Goals as goal

pub returns : goal.returns
unfolding head_sector
returns c = c.write_head.ensures.whole
