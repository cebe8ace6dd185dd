use Rattle.std.proofs.Common.{◌+◌, ◌-◌, refl, arith}
use Rattle.std.proofs.lemmas.Result.{err_from_is_err_and}
use Rattle.message.proofs.Many.{none_read, one_more, next_stops, all_read}
use Rattle.message.proofs.input.Input.names.Goals as goal

pub loop-place-init : goal.loop-place-init
loop-place-init c = rw c.new-names.ensures (none_read _ _ _ _ _ _ (omega arith))

pub loop-place-preserved : goal.loop-place-preserved
loop-place-preserved c =
    one_more _ _ _ (c.args.count - (c.loop-place.place + 1)) _ _ _ _ _ _ _ _ c.loop-place.invariant (omega (arith, c.loop-place-test.true)) c.in_ok-name.ensures c.in_ok-push.ensures.ok refl

pub returns-in_err-name : goal.returns-in_err-name
returns-in_err-name c =
    let p = err_from_is_err_and c.from_residual.result c.from_residual.ensures.1 in
    rw (p.1, p.2) (next_stops _ _ _ (c.args.count - (c.loop-place.place + 1)) _ _ _ _ _ c.loop-place.invariant (omega (arith, c.loop-place-test.true)) c.in_err-name.ensures)

pub returns : goal.returns
returns c = all_read _ _ _ _ _ _ _ c.loop-place.invariant (omega (arith, c.loop-place-test.false))
