use Rattle.judge_run.proofs.Cutting.{cut_front}
use Rattle.judge_run.proofs.Reading.{through_line, finds_line, piece_ends}
use Rattle.judge_run.proofs.text_judge.TextJudge.take_piece.Goals as goal

pub put_off-requires-clause-uncut : goal.put_off-requires-clause-uncut
put_off-requires-clause-uncut c = cut_front c.loop-self.rest.now c.cut_at.result.0.now _ c.cut_at.ensures.parts

pub take_front-requires-clause-uncut : goal.take_front-requires-clause-uncut
take_front-requires-clause-uncut c = cut_front c.loop-self.rest.now c.cut_at.result.0.now _ c.cut_at.ensures.parts

pub returns-in-None : goal.returns-in-None
returns-in-None c =
    piece_ends c.args.self.now c.loop-self.self c.put_off.new.self c.args.piece.now c.loop-self.rest.now c.cut_at.result.0.now c.in_ok-end-in-None.end c.loop-self.invariant (rw c.in-None.is at c.cut_at.ensures.whole) c.in_ok-end-in-None.ensures

pub returns-in-Some-2 : goal.returns-in-Some-2
returns-in-Some-2 c =
    finds_line c.args.self.now c.loop-self.self c.take_front.new.self c.args.piece.now c.loop-self.rest.now c.cut_at.result.0.now c.in-Some.behind.now c.in-Some-2.verdict c.requires.short c.loop-self.invariant
    (rw c.in-Some.is at c.cut_at.ensures.whole)
    (rw c.in-Some-2.is at c.in_ok-verdict-in-Some.ensures)

pub loop-self-preserved : goal.loop-self-preserved
loop-self-preserved c =
    through_line c.args.self.now c.loop-self.self c.take_front.new.self c.args.piece.now c.loop-self.rest.now c.cut_at.result.0.now c.in-Some.behind.now c.loop-self.invariant
    (rw c.in-Some.is at c.cut_at.ensures.whole)
    (rw c.in-None-2.is at c.in_ok-verdict-in-Some.ensures)
