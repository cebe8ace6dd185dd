use Rattle.std.proofs.Common.{◌+◌, ◌-◌, ◌*◌, sym, subst}
use Rattle.directory.specs.Block.{AreEntries}
use Rattle.directory.proofs.Directories.{are_drop, are_take, stored}
use Rattle.directory.proofs.dir_blocks.DirBlocks.store.Goals as goal

pub put_slots-requires-clause-entries : goal.put_slots-requires-clause-entries
put_slots-requires-clause-entries c =
    are_take (128 * c.args.block + 128 - 128 * c.args.block) _ (are_drop (128 * c.args.block) _ (subst AreEntries (sym c.slots.ensures.slots) c.self.invariant.entries))

pub returns : goal.returns
returns c = stored c.args.self.now c.self.inside.table _ c.args.block _ _ c.self.invariant c.self.view_is c.slots.ensures.slots c.requires
    (rw c.new-fields.ensures at c.put_slots.ensures) c.finish.ensures
