use Rattle.std.proofs.Common.{◌≡◌, ◌++◌, filter, not, length}
use Rattle.std.specs.Vec.Iter.{into_iter_items, into_iter_len}
use Rattle.client_book.specs.Memory.{is_behind}
use Rattle.client_memory.proofs.flushed.split.Given as goal

abbrev pub invariant-loop-revoke : goal.invariant-loop-revoke
invariant-loop-revoke l = (l.behind.items ++ filter (is_behind l.ino) (into_iter_items l.revoke-iterator) ≡ filter (is_behind l.fn.ino) l.fn.revokes.items)
    × (l.others.items ++ filter (λ revoke. not (is_behind l.ino revoke)) (into_iter_items l.revoke-iterator) ≡ filter (λ revoke. not (is_behind l.fn.ino revoke)) l.fn.revokes.items)
    × (into_iter_len l.revoke-iterator ≡ length (into_iter_items l.revoke-iterator))
