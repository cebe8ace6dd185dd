use Rattle.std.proofs.Common.{◌≡◌, take}
use Rattle.image.specs.FileRead.{laid}
use Rattle.image.proofs.file_read.lay_over.Given as goal

abbrev pub invariant-loop-place : goal.invariant-loop-place
invariant-loop-place l = l.into ≡ laid (take l.place l.writes) l.at l.fn.into
