use Rattle.server_desk.proofs.Liking.{starts}
use Rattle.server_desk.proofs.laws.a_new_desk_is_like_a_server_that_starts.Goals as goal

pub returns : goal.returns
returns c = starts
