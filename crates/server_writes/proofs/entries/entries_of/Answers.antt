use Rattle.std.proofs.Common.{◌++◌, ◌∙◌, ap, sym}
use Rattle.server_writes.specs.Planned.{entry_by}
use Rattle.server_writes.proofs.Planning.{entries_next, no_entries}
use Rattle.server_writes.proofs.entries.entries_of.Goals as goal

pub loop-act-init : goal.loop-act-init
loop-act-init c = λ view. c.new-entries.ensures ∙ sym (no_entries view)

pub loop-act-preserved : goal.loop-act-preserved
loop-act-preserved c = λ view.
    c.in_ok-put_entry.ensures
    ∙ ap (λ entries. entries ++ entry_by c.act-item.result) (c.loop-act.invariant view)
    ∙ sym (entries_next view c.args.acts.now c.loop-act.act-index _ c.act-item.result c.loop-act-test.true c.act-item.is)
