use Rattle.trace_reader.proofs.NextLine.{on_ok}
use Rattle.trace_reader.proofs.Sound.{takes_sound}
use Rattle.trace_reader.proofs.lines.read_line.Goals as goal

pub returns-in-Ok-clause-sound : goal.returns-in-Ok-clause-sound
returns-in-Ok-clause-sound c sound = on_ok c.take.result c.take.ensures.is (λ takes. takes_sound c.args.reading.now c.take.new.self c.in-Ok.line c.in-Ok.ensures.is takes sound)
