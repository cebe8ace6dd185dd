use Rattle.std.proofs.Common.{◌∙◌, None, arith, append-nil, sym, subst, length, length-append, ap}
use Rattle.std.proofs.lemmas.List.{get_or_default}
use Rattle.directory.specs.Block.{IsSlot, slot_bytes, slots_bytes}
use Rattle.directory.proofs.SlotBytes.{length-slot_bytes, put_more, slot_is}
use Rattle.directory.proofs.block.put_slots.Goals as goal

pub loop-slot-init : goal.loop-slot-init
unfolding slots_bytes
loop-slot-init c = record { put = sym (append-nil c.args.fields.now); length = omega arith }

pub put_slot-requires-clause-slot : goal.put_slot-requires-clause-slot
put_slot-requires-clause-slot c =
    subst IsSlot (sym (c.slot-item.is ∙ get_or_default c.args.slots.now c.loop-slot.slot-index c.slot-item.result None c.loop-slot-test.true))
    (slot_is c.args.slots.now c.loop-slot.slot-index c.requires.entries)

pub loop-slot-preserved : goal.loop-slot-preserved
loop-slot-preserved c =
    let is : IsSlot c.slot-item.result = subst IsSlot (sym (c.slot-item.is ∙ get_or_default c.args.slots.now c.loop-slot.slot-index c.slot-item.result None c.loop-slot-test.true))
    (slot_is c.args.slots.now c.loop-slot.slot-index c.requires.entries) in
    let before = c.loop-slot.invariant.length in
    record {
      put = put_more c.args.fields.now _ _ c.args.slots.now c.loop-slot.slot-index c.slot-item.result c.loop-slot-test.true c.slot-item.is c.loop-slot.invariant.put c.put_slot.ensures;
      length = omega (arith, ap length c.put_slot.ensures, length-append c.loop-slot.fields (slot_bytes c.slot-item.result), length-slot_bytes c.slot-item.result is);
    }
