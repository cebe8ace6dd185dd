use Rattle.std.proofs.Common.{◌≡◌, ◌++◌, take, filter}
use Rattle.token_table.specs.Table.{same_client}
use Rattle.token_table.proofs.hold_map.put_own.Given as goal

abbrev pub invariant-loop-write : goal.invariant-loop-write
invariant-loop-write l = l.last.items ≡ l.fn.last.items ++ filter (λ w. same_client l.c w.0) (take l.write-index l.writes)
