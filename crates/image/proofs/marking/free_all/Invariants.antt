use Rattle.std.proofs.Common.{◌≡◌, true, drop}
use Rattle.volume_edit.specs.Edit.{marked_all}
use Rattle.image.proofs.marking.free_all.Given as goal

abbrev pub invariant-loop-pointer : goal.invariant-loop-pointer
invariant-loop-pointer l = marked_all true l.map (drop l.pointer-index l.pointers) ≡ marked_all true l.initial.map l.pointers
