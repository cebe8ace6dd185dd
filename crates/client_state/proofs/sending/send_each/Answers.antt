use Rattle.std.proofs.Common.{refl}
use Rattle.client_book.specs.Made.{flush_message}
use Rattle.outbox.specs.Sending.{put_all}
use Rattle.client_state.proofs.Outgoing.{all_in, one_more}
use Rattle.client_state.proofs.sending.send_each.Goals as goal

pub loop-flush-init : goal.loop-flush-init
unfolding put_all
loop-flush-init c = refl

pub loop-flush-preserved : goal.loop-flush-preserved
loop-flush-preserved c = one_more flush_message c.args.flushes.now c.loop-flush.flush-index _ c.flush-item.result _ _ _ c.loop-flush-test.true c.loop-flush.invariant c.flush-item.is c.in_ok-flush.ensures

pub returns : goal.returns
returns c = all_in flush_message _ _ _ _ c.loop-flush-test.false c.loop-flush.invariant
