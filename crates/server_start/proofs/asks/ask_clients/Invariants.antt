use Rattle.std.proofs.Common.{count_by}
use Rattle.rebuild.specs.Collecting.{is_to_ask}
use Rattle.server_start.proofs.Turning.{AsksOn}
use Rattle.server_start.proofs.asks.ask_clients.Given as goal

abbrev pub invariant-loop : goal.invariant-loop
invariant-loop l = AsksOn l.fn.desk l.desk

abbrev pub decreases-loop : goal.decreases-loop
decreases-loop l = count_by is_to_ask l.desk.collecting.standings
