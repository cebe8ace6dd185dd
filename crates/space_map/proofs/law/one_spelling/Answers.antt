use Rattle.space_map.proofs.FreeBlocks.{same_sectors}
use Rattle.space_map.proofs.law.one_spelling.Goals as goal

pub returns : goal.returns
returns c = λ a b free fits_a fits_b spells_a spells_b. same_sectors a b free fits_a fits_b spells_a spells_b
