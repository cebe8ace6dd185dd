use Rattle.std.proofs.Common.{◌≡◌, ◌++◌, length}
use Rattle.std.specs.Vec.Iter.{into_iter_items, into_iter_len}
use Rattle.client_sessions.proofs.client_sessions.send_all.Given as goal

abbrev pub invariant-loop-packet : goal.invariant-loop-packet
invariant-loop-packet l = (l.sent ++ into_iter_items l.packet-iterator ≡ l.fn.sent ++ l.fn.packets)
    × (into_iter_len l.packet-iterator ≡ length (into_iter_items l.packet-iterator))
