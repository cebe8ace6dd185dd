use Rattle.std.proofs.Common.{◌+◌, ◌*◌, append-nil, arith, ap, length, length-append, subst, sym}
use Rattle.std.specs.Option.{option_copied}
use Rattle.directory.specs.Block.{IsSlot, slot_bytes, slots_bytes}
use Rattle.directory.specs.Changed.{after}
use Rattle.directory.proofs.Edits.{block_more}
use Rattle.directory.proofs.SlotBytes.{length-slot_bytes, slot_is}
use Rattle.directory.proofs.slot_changes.put_slots_after.Goals as goal

pub loop-offset-init : goal.loop-offset-init
unfolding slots_bytes
loop-offset-init c = record { put = sym (append-nil c.args.fields.now); size = omega arith }

pub put_entry_slot-requires-clause-slot : goal.put_entry_slot-requires-clause-slot
put_entry_slot-requires-clause-slot c =
    subst IsSlot (sym c.entry_after.ensures) (slot_is (after c.args.changes c.args.slots.now) (128 * c.args.block + c.loop-offset.offset) c.requires.entries)

pub loop-offset-preserved : goal.loop-offset-preserved
loop-offset-preserved c =
    let test = c.loop-offset-test.true in
    let within = c.requires.within in
    let size = c.loop-offset.invariant.size in
    let long = length-slot_bytes _ (subst IsSlot (sym c.entry_after.ensures) (slot_is (after c.args.changes c.args.slots.now) (128 * c.args.block + c.loop-offset.offset) c.requires.entries)) in
    record {
      put = block_more c.args.fields.now _ _ (after c.args.changes c.args.slots.now) (128 * c.args.block) c.loop-offset.offset _ (omega arith) c.entry_after.ensures
          c.loop-offset.invariant.put c.put_entry_slot.ensures;
      size = omega (arith, ap length c.put_entry_slot.ensures, length-append c.loop-offset.fields (slot_bytes (option_copied c.entry_after.result)), long);
    }
