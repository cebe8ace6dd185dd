use Rattle.std.proofs.Common.{◌≡◌, ◌++◌}
use Rattle.std.specs.List.{filter_map}
use Rattle.token_table.specs.Blockers.{toucher_of, clients_below}
use Rattle.token_table.proofs.token_table.TokenTable.put_touchers.Given as goal

abbrev pub invariant-loop-number : goal.invariant-loop-number
invariant-loop-number l = l.out ≡ l.initial.out ++ filter_map (toucher_of l.self l.touch) (clients_below l.number)
