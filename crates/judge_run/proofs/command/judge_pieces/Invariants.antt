use Rattle.std.proofs.Common.{◌≡◌, length}
use Rattle.judge_run.proofs.Reading.{IsReadSo}
use Rattle.judge_run.proofs.command.judge_pieces.Given as goal

abbrev pub invariant-loop : goal.invariant-loop
invariant-loop g l =
    IsReadSo (record { left = g.S.Source.left l.fn.source; faults = g.S.Source.fault_count l.fn.source }) l.judge (record { left = g.S.Source.left l.source; faults = g.S.Source.fault_count l.source }) × (length l.piece ≡ 65536)
