use Rattle.std.proofs.Common.{◌≡◌, All, length}
use Rattle.std.specs.Vec.Iter.{into_iter_items, into_iter_len}
use Rattle.client_book.specs.Memory.{items_in}
use Rattle.message.specs.Range.{IsGrantItem}
use Rattle.client_memory.proofs.carrying.take_all.Given as goal

abbrev pub invariant-loop-item : goal.invariant-loop-item
invariant-loop-item l = (items_in l.cache (into_iter_items l.item-iterator) ≡ items_in l.fn.cache l.fn.items.items)
    × All IsGrantItem (into_iter_items l.item-iterator)
    × (into_iter_len l.item-iterator ≡ length (into_iter_items l.item-iterator))
