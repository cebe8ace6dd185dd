use Rattle.std.proofs.Common.{◌≡◌, drop}
use Rattle.server_mail.specs.Step.{HasRoom}
use Rattle.server_mail.proofs.Telling.{after_acts}
use Rattle.server_mail.proofs.sending.send_acts.Given as goal

abbrev pub invariant-loop-act : goal.invariant-loop-act
invariant-loop-act l = (after_acts l.mail (drop l.act-index l.acts) ≡ after_acts l.fn.mail l.acts)
    × HasRoom l.mail (drop l.act-index l.acts)
