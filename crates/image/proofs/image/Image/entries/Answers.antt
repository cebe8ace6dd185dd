use Rattle.std.proofs.Common.{◌≡◌, ◌∙◌, [], ap, arith, map, subst}
use Rattle.std.specs.FinMap as finite
use Rattle.volume.specs.Volume.{Slots, Volume, slots_of}
use Rattle.volume_plan.specs.Shown.{names_of, shown}
use Rattle.image.specs.Listed.{entry_of}
use Rattle.image.proofs.AfterEdit.{read_at}
use Rattle.image.proofs.EntryLists.{are_formed, are_listed}
use Rattle.image.proofs.image.Image.entries.Goals as goal

pub returns-clause-listed : goal.returns-clause-listed
returns-clause-listed c =
    let tree = shown c.args.self.now in
    let count = c.self.invariant.volume.directory_count in
    let low = c.requires in
    let there = read_at c.self.inside.directories.items c.args.ino.0 _ [] (omega arith) c.index-blocks.ensures ∙ ap (λ (v : Volume). slots_of v c.args.ino.0) c.self.view_is in
    subst (λ (slots : Slots). c.in_ok-entries.entries ≡ map (entry_of tree) (finite.entries (names_of slots))) there
    (are_listed tree c.index-blocks.result.now _ _ _ c.by_name.ensures.directory c.by_name.ensures.index c.slots.ensures.slots c.in_ok-entries.ensures)

pub returns-clause-formed : goal.returns-clause-formed
returns-clause-formed c = (are_formed (shown c.args.self.now) c.index-blocks.result.now _ _ _ c.by_name.ensures.directory c.by_name.ensures.index c.slots.ensures.slots c.in_ok-entries.ensures).formed

pub returns-clause-from_one : goal.returns-clause-from_one
returns-clause-from_one c = (are_formed (shown c.args.self.now) c.index-blocks.result.now _ _ _ c.by_name.ensures.directory c.by_name.ensures.index c.slots.ensures.slots c.in_ok-entries.ensures).from_one

pub returns-clause-few : goal.returns-clause-few
returns-clause-few c = (are_formed (shown c.args.self.now) c.index-blocks.result.now _ _ _ c.by_name.ensures.directory c.by_name.ensures.index c.slots.ensures.slots c.in_ok-entries.ensures).few
