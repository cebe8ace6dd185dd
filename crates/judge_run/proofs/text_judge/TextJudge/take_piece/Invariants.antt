use Rattle.std.proofs.Common.{length}
use Rattle.judge_run.proofs.Reading.{IsThrough}
use Rattle.judge_run.proofs.text_judge.TextJudge.take_piece.Given as goal

abbrev pub invariant-loop-self : goal.invariant-loop-self
invariant-loop-self l = IsThrough l.fn.self l.piece l.self l.rest

abbrev pub decreases-loop-self : goal.decreases-loop-self
decreases-loop-self l = length l.rest
