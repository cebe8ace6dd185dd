use Rattle.judge_run.proofs.Reading.{front_fits, front_illegal, front_bad}
use Rattle.judge_run.proofs.text_judge.TextJudge.take_front.Goals as goal

pub returns-in-Fits : goal.returns-in-Fits
returns-in-Fits c = front_fits c.args.self.now c.end_line.new.self c.args.front.now c.in_ok-end_line.field-0 c.in-Fits.is c.in_ok-end_line.ensures.passes c.in_ok-end_line.ensures.cleared

pub returns-in-Illegal : goal.returns-in-Illegal
returns-in-Illegal c = front_illegal c.args.self.now c.end_line.new.self c.args.front.now c.in_ok-end_line.field-0 c.next_number-number.result c.in-Illegal.is c.next_number-number.ensures c.in_ok-end_line.ensures.passes

pub returns-in-Bad : goal.returns-in-Bad
returns-in-Bad c = front_bad c.args.self.now c.end_line.new.self c.args.front.now c.in_ok-end_line.field-0 c.in-Bad.why c.next_number-number.result c.in-Bad.is c.next_number-number.ensures c.requires.ready c.requires.uncut c.in_ok-end_line.ensures.passes
