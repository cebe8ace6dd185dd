use Rattle.std.proofs.Common.{◌∙◌, ap, List, Option, None, Some}
use Rattle.std.specs.List.{slice_set}
use Rattle.directory.specs.declared.entry.DirEntry.{DirEntry}
use Rattle.directory.proofs.Edits.{set_twice}
use Rattle.directory.proofs.slot_table.SlotTable.set.Goals as goal

pub returns : goal.returns
returns c = c.fill.ensures ∙ ap (λ (xs : List (Option DirEntry)). slice_set xs c.args.place (Some c.args.entry)) c.clear_any.ensures
    ∙ set_twice c.args.self.now c.args.place None (Some c.args.entry)
