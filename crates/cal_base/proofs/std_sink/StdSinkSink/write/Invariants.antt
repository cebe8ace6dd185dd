use Rattle.std.proofs.Common.{◌≤◌}
use Rattle.cal_base.proofs.std_sink.StdSinkSink.write.Given as goal

abbrev pub invariant-loop : goal.invariant-loop
invariant-loop g l = l.initial.self-inside.faults ≤ l.self-inside.faults
