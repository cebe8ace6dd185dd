use Rattle.std.proofs.Common.{refl}
use Rattle.cal_fields.specs.Padded.{zeros}
use Rattle.volume.proofs.writes.blank_sector.Goals as goal

pub returns : goal.returns
unfolding zeros
returns c = refl
