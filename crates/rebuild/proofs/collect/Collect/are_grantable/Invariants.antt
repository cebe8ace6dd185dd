use Rattle.std.proofs.Common.{take}
use Rattle.std.specs.List.{All}
use Rattle.token_table.specs.Table.{IsGrantable}
use Rattle.rebuild.specs.Reports.{judged}
use Rattle.rebuild.proofs.collect.Collect.are_grantable.Given as goal

abbrev pub invariant-loop-reported : goal.invariant-loop-reported
invariant-loop-reported l = All (λ r. IsGrantable l.self.table l.c (judged l.flushed r)) (take l.reported-index l.holds)
