use Rattle.server_desk.proofs.Liking.{commits}
use Rattle.server_desk.proofs.laws.a_commit_does_its_deed_to_the_desk.Goals as goal

pub returns : goal.returns
returns c = commits
