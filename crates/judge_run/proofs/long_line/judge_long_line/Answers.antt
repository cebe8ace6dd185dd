use Rattle.std.proofs.Common.{rules, arith}
use Rattle.std.proofs.lemmas.Bool.Decides.{nat_tests}
use Rattle.judge_run.proofs.Reading.{unjudged}
use Rattle.judge_run.proofs.LongLines.{long_at_end, long_found, long_on}
use Rattle.judge_run.proofs.long_line.judge_long_line.Goals as goal

pub returns-in-Err-clause-err : goal.returns-in-Err-clause-err
returns-in-Err-clause-err g c = unjudged _ _ _ c.loop.invariant.0.more c.in-Err.error c.loop.invariant.0.read c.in-Err.ensures.err

pub returns-then-count-eq0-clause-ok : goal.returns-then-count-eq0-clause-ok
returns-then-count-eq0-clause-ok g c = long_at_end c.args.line _ _ _ c.loop.line c.read_piece.new.piece c.in-Ok.count (grind (arith, nat_tests)) c.loop.invariant.0 c.in-Ok.ensures.ok

pub returns-in-Some-clause-ok : goal.returns-in-Some-clause-ok
returns-in-Some-clause-ok g c = long_found c.args.line _ _ _ c.loop.line c.go_on.new.line c.read_piece.new.piece c.in-Ok.count c.in-Some.why c.loop.invariant.0 c.in-Ok.ensures.ok c.in-Some.ensures

pub loop-preserved : goal.loop-preserved
loop-preserved g c = (long_on c.args.line _ _ _ c.loop.line c.go_on.new.line c.read_piece.new.piece c.in-Ok.count c.loop.invariant.0 c.in-Ok.ensures.ok c.in-None.ensures, search rules)
