use Rattle.std.proofs.Common.{rules}
use Rattle.judge_run.proofs.Reading.{unjudged, read_on, found_in, found_at_end, long_ok, long_err}
use Rattle.judge_run.proofs.command.judge_pieces.Goals as goal

pub returns-in-Ok-None-clause-ok : goal.returns-in-Ok-None-clause-ok
returns-in-Ok-None-clause-ok g c = found_at_end _ _ _ c.loop.judge c.take_next.new.judge c.end.result c.loop.invariant.0 (rw c.in-Ok-None.field-0-is at c.in-Ok-None.ensures.ok) c.end.ensures

pub returns-in-Ok-Some-Finds-clause-ok : goal.returns-in-Ok-Some-Finds-clause-ok
returns-in-Ok-Some-Finds-clause-ok g c =
    found_in _ _ _ c.loop.judge c.take_next.new.judge c.in-Ok-Some-Finds.verdict c.loop.invariant.0 (rw c.in-Ok-Some-Finds.field-0-0-is at (rw c.in-Ok-Some-Finds.field-0-is at c.in-Ok-Some-Finds.ensures.ok))

pub returns-in-Err-clause-err : goal.returns-in-Err-clause-err
returns-in-Err-clause-err g c = unjudged _ _ _ c.loop.invariant.0.text c.in-Err.error c.loop.invariant.0.taken c.in-Err.ensures.err

pub loop-preserved : goal.loop-preserved
loop-preserved g c = (read_on _ _ _ c.loop.judge c.take_next.new.judge c.loop.invariant.0 (rw c.in-Ok-Some-GoesOn.field-0-0-is at (rw c.in-Ok-Some-GoesOn.field-0-is at c.in-Ok-Some-GoesOn.ensures.ok)), search rules)

pub returns-in-Ok-Some-TooLong-clause-ok : goal.returns-in-Ok-Some-TooLong-clause-ok
returns-in-Ok-Some-TooLong-clause-ok g c =
    long_ok _ _ _ _ c.loop.judge c.take_next.new.judge c.in-Ok-Some-TooLong.length c.long_line-line.result c.judge_long_line.result c.long_line-line.ensures c.loop.invariant.0
    (rw c.in-Ok-Some-TooLong.field-0-0-is at (rw c.in-Ok-Some-TooLong.field-0-is at c.in-Ok-Some-TooLong.ensures.ok))
    c.judge_long_line.ensures.ok

pub returns-in-Ok-Some-TooLong-clause-err : goal.returns-in-Ok-Some-TooLong-clause-err
returns-in-Ok-Some-TooLong-clause-err g c =
    long_err _ _ _ _ c.loop.judge c.take_next.new.judge c.in-Ok-Some-TooLong.length c.judge_long_line.result c.loop.invariant.0
    (rw c.in-Ok-Some-TooLong.field-0-0-is at (rw c.in-Ok-Some-TooLong.field-0-is at c.in-Ok-Some-TooLong.ensures.ok))
    c.judge_long_line.ensures.err
