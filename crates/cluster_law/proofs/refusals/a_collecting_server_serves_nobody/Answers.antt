use Rattle.std.proofs.Common.{subst}
use Rattle.cluster_law.specs.Granting.{CommitsDeed}
use Rattle.cluster_law.specs.Removing.{RemovesDeed}
use Rattle.cluster_law.proofs.refusals.a_collecting_server_serves_nobody.Goals as goal

pub returns-clause-grants : goal.returns-clause-grants
returns-clause-grants c = λ o start server before lane number items w. w.grants.admitted

pub returns-clause-refuses : goal.returns-clause-refuses
returns-clause-refuses c = λ o start server before lane number free wanted w. w.refuses.admitted

pub returns-clause-answers : goal.returns-clause-answers
returns-clause-answers c = λ o start server before lane number reply w. w.commits.admitted

pub returns-clause-revokes : goal.returns-clause-revokes
returns-clause-revokes c = λ o start server before lane revoke w. w.revokes.admitted

pub returns-clause-changes : goal.returns-clause-changes
returns-clause-changes c = λ o start server before commit asked reply new_ino e w. (subst (λ deed. CommitsDeed server o.took deed commit) e w.commits.0).admitted

pub returns-clause-frees : goal.returns-clause-frees
returns-clause-frees c = λ o start server before commit ino e w. (subst (λ deed. RemovesDeed o.tick o.gone server before deed commit) e w.removes).1.admitted
