use Rattle.std.proofs.Common.{◌∙◌, ◌+◌, refl, List, Bool, true, ap, sym, arith, drop}
use Rattle.volume_edit.specs.Edit.{marked_all}
use Rattle.image.proofs.MarkedPointers.{marked_end, marked_on}
use Rattle.image.proofs.marking.free_all.Goals as goal

pub loop-pointer-preserved : goal.loop-pointer-preserved
loop-pointer-preserved c =
    ap (λ (free : List Bool). marked_all true free (drop (c.loop-pointer.pointer-index + 1) c.args.pointers.now)) c.free_one.ensures
    ∙ sym (marked_on true c.loop-pointer.map c.args.pointers.now c.loop-pointer.pointer-index _ (omega arith) refl) ∙ c.loop-pointer.invariant

pub returns : goal.returns
returns c = marked_end true c.loop-pointer.map c.args.map.now c.args.pointers.now c.loop-pointer.pointer-index (omega arith) c.loop-pointer.invariant
