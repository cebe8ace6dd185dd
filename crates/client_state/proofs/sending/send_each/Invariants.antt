use Rattle.std.proofs.Common.{◌≡◌, map, take}
use Rattle.client_book.specs.Made.{flush_message}
use Rattle.outbox.specs.Sending.{put_all}
use Rattle.client_state.proofs.sending.send_each.Given as goal

abbrev pub invariant-loop-flush : goal.invariant-loop-flush
invariant-loop-flush l = l.out ≡ put_all l.fn.out (map flush_message (take l.flush-index l.flushes))
