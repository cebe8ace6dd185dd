use Rattle.std.proofs.Common.{◌≡◌, ◌+◌, ◌<◌, ◌-◌, ◌^◌, All, length}
use Rattle.std.specs.Vec.Iter.{into_iter_items, into_iter_len}
use Rattle.client_book.specs.Made.{revoking_all_in}
use Rattle.client_book.specs.Memory.{revoked_all_in}
use Rattle.client_book.specs.Sound.{IsRemembered}
use Rattle.outbox.specs.Sending.{put_all}
use Rattle.client_memory.proofs.memory.Memory.revoke_all.Given as goal

abbrev pub invariant-loop-revoke : goal.invariant-loop-revoke
invariant-loop-revoke l = (revoked_all_in l.self (into_iter_items l.revoke-iterator) ≡ revoked_all_in l.fn.self l.fn.revokes.items)
    × (put_all l.out (revoking_all_in l.self (into_iter_items l.revoke-iterator)) ≡ put_all l.fn.out (revoking_all_in l.fn.self l.fn.revokes.items))
    × All IsRemembered (into_iter_items l.revoke-iterator)
    × (into_iter_len l.revoke-iterator ≡ length (into_iter_items l.revoke-iterator))
    × (l.self.known.last_flush + length (into_iter_items l.revoke-iterator) < 2 ^ 64 - 1)
