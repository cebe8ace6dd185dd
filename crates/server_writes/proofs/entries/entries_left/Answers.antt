use Rattle.std.proofs.Common.{◌∙◌, ap, take}
use Rattle.server_draft.specs.Acts.{acts_of}
use Rattle.server_writes.proofs.Left.{taken_left}
use Rattle.server_writes.proofs.entries.entries_left.Goals as goal

pub returns : goal.returns
returns c = λ view.
    c.from_vec.ensures
    ∙ c.truncate.ensures.items
    ∙ ap (λ n. take n c.into_vec-entries.result.items) (c.count_left-count.ensures view)
    ∙ taken_left c.args.failed c.args.kept.now (acts_of view c.args.acts.now) c.into_vec-entries.result.items (c.requires.kept view) (c.into_vec-entries.ensures ∙ c.requires.entries view)
