use Rattle.volume_edit.proofs.BlocksKept.{edited_blocks}
use Rattle.volume_edit.proofs.blocks.an_edit_keeps_blocks.Goals as goal

pub returns : goal.returns
returns c = λ v e is kept edit takes. edited_blocks v e is kept edit takes
