use Rattle.packet_links.proofs.Changes.{send-keeps, send-only, send-there}
use Rattle.packet_links.proofs.law.a_send_adds_its_packet.Goals as goal

pub returns-clause-only : goal.returns-clause-only
returns-clause-only c = send-only

pub returns-clause-there : goal.returns-clause-there
returns-clause-there c = send-there

pub returns-clause-kept : goal.returns-clause-kept
returns-clause-kept c = send-keeps
