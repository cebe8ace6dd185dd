use Rattle.volume_edit.proofs.Spelling.{edited_spelled}
use Rattle.volume_edit.proofs.law.an_edit_is_spelled.Goals as goal

pub returns : goal.returns
returns c = λ sectors v e homes long spells volume blocks is takes at. edited_spelled sectors v e homes long spells volume blocks is takes at
