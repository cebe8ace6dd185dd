use Rattle.volume_edit.proofs.OneWhole.{one_whole}
use Rattle.volume_edit.proofs.law.one_whole_volume.Goals as goal

pub returns : goal.returns
returns c = λ sectors a b s t p q. one_whole sectors a b s t p q
