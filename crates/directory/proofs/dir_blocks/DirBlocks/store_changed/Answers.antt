use Rattle.std.proofs.Common.{sym, subst, ◌∙◌, List, Option}
use Rattle.directory.specs.declared.entry.DirEntry.{DirEntry}
use Rattle.directory.specs.Block.{AreEntries}
use Rattle.directory.specs.Changed.{after}
use Rattle.directory.proofs.Edits.{stored_changed}
use Rattle.directory.proofs.dir_blocks.DirBlocks.store_changed.Goals as goal

pub put_slots_after-requires-clause-entries : goal.put_slots_after-requires-clause-entries
put_slots_after-requires-clause-entries c =
    subst (λ (xs : List (Option DirEntry)). AreEntries (after c.args.changes xs)) (sym (c.slots.ensures.slots ∙ c.self.view_is)) c.requires.entries

pub returns : goal.returns
returns c = stored_changed c.args.changes c.args.self.now c.self.inside.table _ c.args.block _ _ c.self.invariant c.self.view_is c.slots.ensures.slots c.requires.within c.requires.entries
    (rw c.new-fields.ensures at c.put_slots_after.ensures) c.finish.ensures
