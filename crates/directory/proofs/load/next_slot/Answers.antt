use Rattle.std.proofs.Common.{subst, ◌∙◌, sym}
use Rattle.directory.specs.Directory.{Repeats}
use Rattle.directory.proofs.Loads.{same_slot}
use Rattle.directory.proofs.load.next_slot.Goals as goal

pub returns-in-Err-push_slot-clause-bad : goal.returns-in-Err-push_slot-clause-bad
returns-in-Err-push_slot-clause-bad c = λ slot is spelled.
    subst (Repeats c.args.table.now) (same_slot _ slot c.in-Ok.ensures.slot is (sym c.in-Ok.ensures.found ∙ spelled)) c.in-Err-push_slot.ensures.bad
