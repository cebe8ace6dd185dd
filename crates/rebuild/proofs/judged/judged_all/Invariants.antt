use Rattle.std.proofs.Common.{◌≡◌, take, map}
use Rattle.rebuild.specs.Reports.{judged}
use Rattle.rebuild.proofs.judged.judged_all.Given as goal

abbrev pub invariant-loop-reported : goal.invariant-loop-reported
invariant-loop-reported l = l.tokens.items ≡ map (judged l.flushed) (take l.reported-index l.holds)
