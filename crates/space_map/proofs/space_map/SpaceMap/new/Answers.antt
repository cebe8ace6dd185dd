use Rattle.cal_base.specs.Limits.{map_size}
use Rattle.space_map.proofs.FreeBlocks.{all_free}
use Rattle.space_map.proofs.space_map.SpaceMap.new.Goals as goal

pub returns : goal.returns
returns c = all_free map_size
