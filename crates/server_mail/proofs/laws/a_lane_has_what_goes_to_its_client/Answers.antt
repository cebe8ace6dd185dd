use Rattle.server_mail.proofs.Addressed.{lane-has}
use Rattle.server_mail.proofs.laws.a_lane_has_what_goes_to_its_client.Goals as goal

pub returns : goal.returns
returns c = lane-has
