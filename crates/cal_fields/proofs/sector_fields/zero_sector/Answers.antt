use Rattle.std.proofs.Common.{refl}
use Rattle.cal_fields.specs.Padded.{padded, zeros}
use Rattle.cal_fields.proofs.sector_fields.zero_sector.Goals as goal

pub returns : goal.returns
unfolding padded zeros
returns c = refl
