use Rattle.std.proofs.Common.{subst}
use Rattle.cluster_law.specs.Removing.{RemovesDeed}
use Rattle.cluster_law.proofs.RuledOut.{due-gone}
use Rattle.cluster_law.proofs.refusals.the_living_are_not_purged.Goals as goal

pub returns-clause-gone : goal.returns-clause-gone
returns-clause-gone c = λ o start server before commit client e w. due-gone o.gone server (record { 0 = client }) (subst (λ deed. RemovesDeed o.tick o.gone server before deed commit) e w.removes).1.due_is

pub returns-clause-tick : goal.returns-clause-tick
returns-clause-tick c = λ o start server before commit client e w. (subst (λ deed. RemovesDeed o.tick o.gone server before deed commit) e w.removes).0

pub returns-clause-frees : goal.returns-clause-frees
returns-clause-frees c = λ o start server before commit ino e w. (subst (λ deed. RemovesDeed o.tick o.gone server before deed commit) e w.removes).0

pub returns-clause-one : goal.returns-clause-one
returns-clause-one c = λ o start server before commit client e w. (subst (λ deed. RemovesDeed o.tick o.gone server before deed commit) e w.removes).1.alone
