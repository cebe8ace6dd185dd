use Rattle.std.proofs.Common.{◌≡◌, ◌+◌, ◌*◌, ◌∷◌, take, length}
use Rattle.shared_disk.specs.Homes.{sectors_of}
use Rattle.journal.specs.Layout.{numbers}
use Rattle.journal.proofs.header.header_with.Given as goal

abbrev pub invariant-loop-i : goal.invariant-loop-i
invariant-loop-i l = record {
  front : l.fields ≡ length l.homes ∷ numbers (sectors_of (take l.i l.homes));
  long : length l.fields ≡ 1 + 4 * l.i;
}
