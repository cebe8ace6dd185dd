use Rattle.packet_links.proofs.Changes.{cut-keeps, cut-nothing, cut-only}
use Rattle.packet_links.proofs.law.a_cut_loses_its_link.Goals as goal

pub returns-clause-only : goal.returns-clause-only
returns-clause-only c = cut-only

pub returns-clause-gone : goal.returns-clause-gone
returns-clause-gone c = cut-nothing

pub returns-clause-kept : goal.returns-clause-kept
returns-clause-kept c = cut-keeps
