use Rattle.packet_links.specs.Links.{IsLeast}
use Rattle.packet_links.proofs.Least.{WaitsAmong}
use Rattle.packet_links.proofs.links.Links.first_for_server.Given as goal

abbrev pub invariant-loop-client : goal.invariant-loop-client
invariant-loop-client l = IsLeast (WaitsAmong l.fn.self l.fn.server l.client) l.least
