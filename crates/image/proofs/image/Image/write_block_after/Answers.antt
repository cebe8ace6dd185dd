use Rattle.std.proofs.Common.{◌<◌, ◌*◌, length, subst, sym}
use Rattle.directory.specs.Block.{AreEntries, SpellsBlock}
use Rattle.directory.specs.Directory.{block_slots}
use Rattle.volume.specs.Volume.{Slots, Volume}
use Rattle.volume_edit.specs.Edit.{IsVolume}
use Rattle.volume_edit.proofs.Directories.{each_directory_edited}
use Rattle.image.proofs.AfterEdit.{slots_left_there}
use Rattle.image.proofs.image.Image.write_block_after.Goals as goal

pub store_changed-requires-clause-within : goal.store_changed-requires-clause-within
store_changed-requires-clause-within c =
    let left = slots_left_there _ _ c.args.edit.now c.args.ino.0 _ _ _ _ c.self.invariant.volume c.self.view_is c.requires.block.to_511 c.requires.block.stays
    c.changes_of.ensures.grows c.changes_of.ensures.leaving c.changes_of.ensures.entering c.index.ensures in
    subst (λ (slots : Slots). 128 * c.args.index < length slots) (sym left) c.requires.block.there

pub store_changed-requires-clause-entries : goal.store_changed-requires-clause-entries
store_changed-requires-clause-entries c =
    let left = slots_left_there _ _ c.args.edit.now c.args.ino.0 _ _ _ _ c.self.invariant.volume c.self.view_is c.requires.block.to_511 c.requires.block.stays
    c.changes_of.ensures.grows c.changes_of.ensures.leaving c.changes_of.ensures.entering c.index.ensures in
    let volume = subst (λ (v : Volume). IsVolume v) c.self.view_is c.self.invariant.volume in
    subst AreEntries (sym left) (each_directory_edited _ c.args.edit.now volume c.requires.edit c.args.ino.0).entries

pub returns : goal.returns
returns c =
    let left = slots_left_there _ _ c.args.edit.now c.args.ino.0 _ _ _ _ c.self.invariant.volume c.self.view_is c.requires.block.to_511 c.requires.block.stays
    c.changes_of.ensures.grows c.changes_of.ensures.leaving c.changes_of.ensures.entering c.index.ensures in
    subst (λ (slots : Slots). SpellsBlock c.store_changed.new.into (block_slots slots c.args.index)) left c.store_changed.ensures
