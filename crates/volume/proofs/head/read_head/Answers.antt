use Rattle.std.proofs.Common.{ℕ, sym, ap, ◌∙◌}
use Rattle.cal_fields.specs.Padded.{padded}
use Rattle.volume.specs.Head.{head_fields}
use Rattle.volume.proofs.HeadLemmas.{length-head_fields}
use Rattle.volume.proofs.head.read_head.Goals as goal

pub returns-in_default-clause-again : goal.returns-in_default-clause-again
returns-in_default-clause-again c = λ clients spells.
    absurd (c.in_default.ensures.again (head_fields clients) (length-head_fields clients) (spells.whole ∙ ap (λ (n : ℕ). padded n (head_fields clients)) (sym c.told-from)))

pub returns-in_err-clients-clause-again : goal.returns-in_err-clients-clause-again
returns-in_err-clients-clause-again c = λ clients spells.
    absurd (c.in_err-clients.ensures.bad clients (c.in-Some.ensures.again (head_fields clients) (length-head_fields clients) (spells.whole ∙ ap (λ (n : ℕ). padded n (head_fields clients)) (sym c.told-from))))
