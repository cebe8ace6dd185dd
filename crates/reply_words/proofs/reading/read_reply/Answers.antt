use Rattle.std.proofs.Common.{◌≡◌, true, false, Ok, Err, sym, ap, ◌∙◌, subst, arith}
use Rattle.std.proofs.lemmas.Slice.Eq.{bytes_eq-Decides}
use Rattle.line_words.specs.Outcome.{Answers}
use Rattle.reply_words.specs.Limits.{told_by}
use Rattle.reply_words.specs.Reading.{ReadsReply}
use Rattle.reply_words.specs.Telling.{reply_said}
use Rattle.reply_words.proofs.Read.{refused, read, differs}
use Rattle.reply_words.proofs.reading.read_reply.Goals as goal

pub returns-in-Err : goal.returns-in-Err
returns-in-Err c = subst (λ told. Answers (reply_said told c.args.text.now) (Err c.in-Err.error) → ReadsReply c.args.call.now c.args.text.now (Err c.in-Err.error)) (sym c.told_by.ensures) (λ h. refused c.args.call.now c.args.text.now c.in-Err.error (omega (arith, c.well_formed)) h) c.in-Err.ensures

pub returns-then-eq : goal.returns-then-eq
returns-then-eq c =
    let said : reply_said (told_by c.args.call.now) c.args.text.now ≡ Ok c.in-Ok.reply = ap (λ told. reply_said told c.args.text.now) (sym c.told_by.ensures) ∙ c.in-Ok.ensures in
    let same = (bytes_eq-Decides c.as_slice.result.now c.args.text.now).0 (sym c.if-eq.ensures) in
    read c.args.call.now c.args.text.now c.in-Ok.reply (omega (arith, c.well_formed)) said (sym c.in-Ok-reply_text.ensures ∙ sym c.as_slice.ensures.value ∙ same)

pub returns-else-eq : goal.returns-else-eq
returns-else-eq c =
    let said : reply_said (told_by c.args.call.now) c.args.text.now ≡ Ok c.in-Ok.reply = ap (λ told. reply_said told c.args.text.now) (sym c.told_by.ensures) ∙ c.in-Ok.ensures in
    differs c.args.call.now c.args.text.now c.in-Ok.reply (omega (arith, c.well_formed)) said
    (λ e.
    let same = (bytes_eq-Decides c.as_slice.result.now c.args.text.now).1 (c.as_slice.ensures.value ∙ c.in-Ok-reply_text.ensures ∙ e) in
    let both : false ≡ true = c.if-eq.ensures ∙ same in grind arith)
