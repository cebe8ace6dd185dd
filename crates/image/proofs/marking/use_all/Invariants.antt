use Rattle.std.proofs.Common.{◌≡◌, false, drop}
use Rattle.volume_edit.specs.Edit.{marked_all}
use Rattle.image.proofs.marking.use_all.Given as goal

abbrev pub invariant-loop-pointer : goal.invariant-loop-pointer
invariant-loop-pointer l = marked_all false l.map (drop l.pointer-index l.pointers) ≡ marked_all false l.initial.map l.pointers
