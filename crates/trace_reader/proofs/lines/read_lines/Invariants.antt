use Rattle.std.proofs.Common.{length}
use Rattle.trace_reader.specs.Whole.{Awaits, IsSound, lines_left}
use Rattle.trace_reader.specs.declared.reading.Reading.{Reading}
use Rattle.trace_reader.proofs.lines.read_lines.Given as goal

abbrev pub invariant-loop-rest : goal.invariant-loop-rest
invariant-loop-rest l = (IsSound l.fn.reading → IsSound l.reading) × ((last : Reading) → Awaits (lines_left l.text) l.fn.reading last → Awaits (lines_left l.rest) l.reading last)

abbrev pub decreases-loop-rest : goal.decreases-loop-rest
decreases-loop-rest l = length (lines_left l.rest)
