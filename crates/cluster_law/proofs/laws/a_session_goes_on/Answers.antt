use Rattle.cluster_law.proofs.Ends.{goes-on}
use Rattle.cluster_law.proofs.laws.a_session_goes_on.Goals as goal

pub returns : goal.returns
returns c = λ w lane s earlier session k same fits. goes-on w lane s earlier session k same fits
