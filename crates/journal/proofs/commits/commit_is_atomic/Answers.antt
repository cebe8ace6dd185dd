use Rattle.journal.specs.Commit.{commit_writes}
use Rattle.journal.proofs.Moments.{at_cut}
use Rattle.journal.proofs.Law.{Either, each_moment}
use Rattle.journal.proofs.commits.commit_is_atomic.Goals as goal

pub returns : goal.returns
returns c = λ s hs k torn whole closed t. at_cut (Either s hs) s (commit_writes hs) (each_moment s hs whole closed t) k torn
