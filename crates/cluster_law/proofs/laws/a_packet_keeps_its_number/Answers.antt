use Rattle.cluster_law.proofs.Packets.{sent-stays}
use Rattle.cluster_law.proofs.laws.a_packet_keeps_its_number.Goals as goal

pub returns : goal.returns
returns c = sent-stays
