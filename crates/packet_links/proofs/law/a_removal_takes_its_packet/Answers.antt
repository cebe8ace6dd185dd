use Rattle.packet_links.proofs.Changes.{remove-gone, remove-keeps, remove-only}
use Rattle.packet_links.proofs.law.a_removal_takes_its_packet.Goals as goal

pub returns-clause-only : goal.returns-clause-only
returns-clause-only c = remove-only

pub returns-clause-gone : goal.returns-clause-gone
returns-clause-gone c = remove-gone

pub returns-clause-kept : goal.returns-clause-kept
returns-clause-kept c = remove-keeps
