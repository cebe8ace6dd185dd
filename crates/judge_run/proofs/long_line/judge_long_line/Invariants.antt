use Rattle.std.proofs.Common.{◌≡◌, length}
use Rattle.judge_run.proofs.LongLines.{IsLongOn}
use Rattle.judge_run.proofs.long_line.judge_long_line.Given as goal

abbrev pub invariant-loop : goal.invariant-loop
invariant-loop g l =
    IsLongOn l.fn.line (record { left = g.S.Source.left l.fn.source; faults = g.S.Source.fault_count l.fn.source }) l.line (record { left = g.S.Source.left l.source; faults = g.S.Source.fault_count l.source }) × (length l.piece ≡ 65536)
