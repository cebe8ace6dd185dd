use Rattle.std.proofs.Common.{◌∙◌, ◌+◌, ◌-◌, ◌*◌, ap, drop, arith, length-drop}
use Rattle.std.proofs.lemmas.List.{take_all}
use Rattle.byteorder.specs.Endian.{big_number}
use Rattle.journal.proofs.Headers.{number_taken}
use Rattle.journal.proofs.header.home_at.Goals as goal

pub returns : goal.returns
returns c =
    let from = 1 + 4 * c.args.place in
    let long = length-drop from c.args.header.now in
    let told = c.told-header in
    number_taken _ _ _ (omega arith) (rw c.unwrap.ensures at c.take_u32.ensures.taken)
    ∙ ap (big_number 4) (take_all (4096 - from) (drop from c.args.header.now) (omega arith))
