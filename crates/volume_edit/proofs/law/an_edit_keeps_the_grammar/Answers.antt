use Rattle.volume_edit.proofs.Grammar.{edited_volume}
use Rattle.volume_edit.proofs.law.an_edit_keeps_the_grammar.Goals as goal

pub returns : goal.returns
returns c = λ v e h is. edited_volume v e h is
