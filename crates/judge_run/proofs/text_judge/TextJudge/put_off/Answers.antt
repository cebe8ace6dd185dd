use Rattle.std.proofs.Common.{arith}
use Rattle.std.proofs.lemmas.Bool.Decides.{nat_tests}
use Rattle.judge_run.proofs.Reading.{big_here}
use Rattle.judge_run.proofs.text_judge.TextJudge.put_off.Goals as goal

pub returns-then-is_behind : goal.returns-then-is_behind
returns-then-is_behind c = big_here c.args.self.now c.args.front.now c.next_number-number.result c.requires.ready c.requires.uncut c.requires.short c.next_number-number.ensures (grind (arith, nat_tests))
