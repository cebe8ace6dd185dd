use Rattle.std.proofs.Common.{◌≡◌, take}
use Rattle.token_table.specs.Blockers.{blockers_of}
use Rattle.token_table.proofs.token_table.TokenTable.blockers.Given as goal

abbrev pub invariant-loop-need : goal.invariant-loop-need
invariant-loop-need l = l.blockers ≡ blockers_of l.self l.c (take l.need-index l.needs)
