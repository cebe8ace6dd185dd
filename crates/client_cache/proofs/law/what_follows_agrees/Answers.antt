use Rattle.client_cache.proofs.FollowLemmas.{follows_agrees}
use Rattle.client_cache.proofs.law.what_follows_agrees.Goals as goal

pub returns : goal.returns
returns c = follows_agrees
