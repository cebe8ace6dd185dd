use Rattle.packet_links.specs.Links.{IsLeast}
use Rattle.schedule.proofs.NodesLemmas.{WaitsAmong}
use Rattle.schedule.proofs.due.first_to_running.Given as goal

abbrev pub invariant-loop-number : goal.invariant-loop-number
invariant-loop-number l = IsLeast (WaitsAmong l.fn.world l.fn.links l.number) l.first
