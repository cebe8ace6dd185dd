use Rattle.packet_links.proofs.Changes.{mend-keeps, mend-only}
use Rattle.packet_links.proofs.law.a_mending_brings_nothing.Goals as goal

pub returns-clause-only : goal.returns-clause-only
returns-clause-only c = mend-only

pub returns-clause-kept : goal.returns-clause-kept
returns-clause-kept c = mend-keeps
