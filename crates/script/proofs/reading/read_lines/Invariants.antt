use Rattle.std.proofs.Common.{◌+◌, length}
use Rattle.std.specs.Option.{option_map_or}
use Rattle.script.specs.Lines.{numbered, parts_of}
use Rattle.script.proofs.LinesRead.{AreRead, IsWithin}
use Rattle.script.proofs.reading.read_lines.Given as goal

abbrev pub invariant-loop-left : goal.invariant-loop-left
invariant-loop-left l = IsWithin (AreRead (numbered 2 l.first (parts_of l.rest)) l.number l.through (parts_of l.left) l.fn.begun l.script) (l.first + option_map_or (λ text. length text.now) l.rest 0) l.through (option_map_or (λ text. length text.now) l.left 0)

abbrev pub decreases-loop-left : goal.decreases-loop-left
decreases-loop-left l = option_map_or (λ text. 1 + length text.now) l.left 0
