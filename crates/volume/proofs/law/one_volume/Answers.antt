use Rattle.volume.proofs.OneVolume.{same_volume}
use Rattle.volume.proofs.law.one_volume.Goals as goal

pub returns : goal.returns
returns c = λ sectors a b s t. same_volume sectors a b s t
