use Rattle.std.proofs.Common.{◌≡◌, drop}
use Rattle.client_book.specs.Memory.{lower_all}
use Rattle.client_memory.proofs.carrying.lower_all.Given as goal

abbrev pub invariant-loop-item : goal.invariant-loop-item
invariant-loop-item l = lower_all l.cache l.ino (drop l.item-index l.items) ≡ lower_all l.fn.cache l.fn.ino l.fn.items
