use Rattle.std.proofs.Common.{Option, ap, sym, ◌∙◌}
use Rattle.cal_base.specs.declared.identity.Ino.{Ino}
use Rattle.server_removals.specs.Removals.{at_desk, has_dealt}
use Rattle.server_removals.proofs.Resting.{dealt-with}
use Rattle.server_removals.proofs.quiet.is_dealt_with.Goals as goal

pub returns-in-Some : goal.returns-in-Some
returns-in-Some c =
    let desk = c.args.desk.now in
    let v = c.args.image.now in
    c.is_asked_for.ensures ∙ sym (dealt-with desk v c.in-Some.ino) ∙ ap (λ (found : Option Ino). has_dealt (at_desk desk v) found) c.in-Some.ensures.value
