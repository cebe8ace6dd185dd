use Rattle.std.proofs.Common.{◌≡◌, take}
use Rattle.token_table.specs.Blockers.{touchers_of}
use Rattle.token_table.proofs.token_table.TokenTable.touchers.Given as goal

abbrev pub invariant-loop-touch : goal.invariant-loop-touch
invariant-loop-touch l = l.blockers ≡ touchers_of l.self (take l.touch-index l.touches)
