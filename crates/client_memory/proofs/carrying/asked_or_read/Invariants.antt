use Rattle.std.proofs.Common.{◌≡◌, drop}
use Rattle.cluster_law.specs.Book.{asked_or_read}
use Rattle.client_memory.proofs.carrying.asked_or_read.Given as goal

abbrev pub invariant-loop-item : goal.invariant-loop-item
invariant-loop-item l = asked_or_read l.«class» (drop l.item-index l.asked) ≡ asked_or_read l.fn.«class» l.fn.asked
