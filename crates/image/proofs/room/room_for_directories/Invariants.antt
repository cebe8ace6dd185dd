use Rattle.std.proofs.Common.{◌≡◌, [], replicate}
use Rattle.image.proofs.room.room_for_directories.Given as goal

abbrev pub invariant-loop-number : goal.invariant-loop-number
invariant-loop-number l = l.directories.items ≡ replicate l._number []
