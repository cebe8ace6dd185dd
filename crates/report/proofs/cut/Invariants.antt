use Rattle.std.proofs.Common.{◌≡◌}
use Rattle.report.specs.Report.{full_pieces}
use Rattle.report.proofs.cut.Given as goal

abbrev pub invariant-loop-index : goal.invariant-loop-index
invariant-loop-index l = l.report ≡ full_pieces l.holds l.index
