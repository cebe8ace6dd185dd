use Rattle.directory.proofs.Edits.{entry_told}
use Rattle.directory.proofs.slot_changes.entry_after.Goals as goal

pub returns : goal.returns
returns c = entry_told c.args.changes c.args.slots.now c.args.place _ _ _ c.requires c.entry_in.ensures c.entry_left-slot.ensures c.entry_entered.ensures
