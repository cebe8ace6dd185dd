use Rattle.revocation.proofs.Reasons.{revokes_are_of_blockers, all_asked}
use Rattle.revocation.proofs.laws.what_blocks_is_asked.Goals as goal

pub returns-clause-items : goal.returns-clause-items
returns-clause-items c = revokes_are_of_blockers

pub returns-clause-asked : goal.returns-clause-asked
returns-clause-asked c = all_asked
