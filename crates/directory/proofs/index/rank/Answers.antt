use Rattle.std.proofs.Common.{◌∙◌, None, ap}
use Rattle.std.proofs.lemmas.List.{get_or_default}
use Rattle.directory.specs.Index.{name_of}
use Rattle.directory.proofs.Order.{ranked_at, taken_no_gap, taken_within}
use Rattle.directory.proofs.index.rank.Goals as goal

pub returns-in-Ok-clause-is : goal.returns-in-Ok-clause-is
returns-in-Ok-clause-is c =
    ranked_at _ _ _ _ _ c.requires.index c.requires.taken
    (c.name_in.ensures ∙ ap name_of (c.index-slots-place.is ∙ get_or_default c.args.slots.now c.args.place c.index-slots-place.result None (taken_within _ _ c.requires.taken)))
    c.in-Ok.ensures.found

pub returns-in-Err-clause-within : goal.returns-in-Err-clause-within
returns-in-Err-clause-within c =
    absurd (taken_no_gap _ _ _ c.args.place _ c.requires.index c.requires.taken
    (c.name_in.ensures ∙ ap name_of (c.index-slots-place.is ∙ get_or_default c.args.slots.now c.args.place c.index-slots-place.result None (taken_within _ _ c.requires.taken)))
    c.in-Err.ensures.absent)

pub returns-in-Err-clause-is : goal.returns-in-Err-clause-is
returns-in-Err-clause-is c =
    absurd (taken_no_gap _ _ _ c.args.place _ c.requires.index c.requires.taken
    (c.name_in.ensures ∙ ap name_of (c.index-slots-place.is ∙ get_or_default c.args.slots.now c.args.place c.index-slots-place.result None (taken_within _ _ c.requires.taken)))
    c.in-Err.ensures.absent)
