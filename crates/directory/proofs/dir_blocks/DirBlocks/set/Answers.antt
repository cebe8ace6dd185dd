use Rattle.std.proofs.Common.{sym, subst, ap, ◌∙◌, List, Option, Some}
use Rattle.std.specs.List.{slice_set}
use Rattle.directory.specs.declared.entry.DirEntry.{DirEntry}
use Rattle.directory.specs.Directory.{IsAlone, IsDirectory}
use Rattle.directory.proofs.Edits.{directory_set}
use Rattle.directory.proofs.dir_blocks.DirBlocks.set.Goals as goal

pub invariant_of-self : goal.invariant_of-self
invariant_of-self c =
    let alone : IsAlone c.self.inside.table c.args.entry.now.name c.args.place = subst (λ (xs : List (Option DirEntry)). IsAlone xs c.args.entry.now.name c.args.place) (sym c.self.view_is) c.requires.alone in
    subst IsDirectory (sym (c.set.ensures ∙ ap (λ (e : DirEntry). slice_set c.self.inside.table c.args.place (Some e)) c.copied.ensures))
    (directory_set c.self.inside.table c.args.place c.args.entry.now c.self.invariant c.requires.entry alone)
