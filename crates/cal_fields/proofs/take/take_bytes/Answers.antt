use Rattle.std.proofs.Common.{length, take, drop, ap, ◌∙◌, arith, length-append}
use Rattle.std.proofs.lemmas.List.{drop_at, take_at, take_rest}
use Rattle.cal_fields.proofs.take.take_bytes.Goals as goal

pub returns-then-bytes-count-clause-again : goal.returns-then-bytes-count-clause-again
returns-then-bytes-count-clause-again c = λ bytes rest same e.
    absurd (omega (arith, c.if-bytes-count.true, ap length e, length-append bytes rest))

pub returns-clause-again : goal.returns-clause-again
returns-clause-again c = λ bytes rest same e. (
  ap (take c.args.count) e ∙ take_at bytes rest c.args.count same,
  take_rest c.args.from.now.now c.args.count ∙ ap (drop c.args.count) e ∙ drop_at bytes rest c.args.count same,
)
