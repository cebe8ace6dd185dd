use Rattle.std.proofs.Common.{◌∙◌, Ok, arith, refl, sym, ap}
use Rattle.cal_fields.proofs.BigEndianLemmas.{big_endian-cancel, length-big_endian-append}
use Rattle.cal_fields.proofs.take.take_u16.Goals as goal

pub returns-in_err-take_bytes-clause-again : goal.returns-in_err-take_bytes-clause-again
returns-in_err-take_bytes-clause-again c = λ number rest fits e.
    let enough = length-big_endian-append 2 number rest c.args.from.now.now e in
    absurd (omega (arith, enough, c.in_err-take_bytes.ensures.short.0 refl))

pub returns-clause-again : goal.returns-clause-again
returns-clause-again c = λ number rest fits e.
    let taken = rw c.number_u16.ensures at c.in_ok-take_bytes.ensures.taken in
    let same = big_endian-cancel 2 c.number_u16.result number c.take_bytes.new.from.now rest (omega arith) fits (sym taken ∙ e) in
    (ap Ok same.0, same.1)
