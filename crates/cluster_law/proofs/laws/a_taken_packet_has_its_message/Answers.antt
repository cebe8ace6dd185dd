use Rattle.cluster_law.proofs.Bodies.{heard-fits}
use Rattle.cluster_law.proofs.laws.a_taken_packet_has_its_message.Goals as goal

pub returns : goal.returns
returns c = heard-fits
