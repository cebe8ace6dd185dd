use Rattle.std.proofs.Common.{◌≡◌, sym, ◌∙◌, arith, true}
use Rattle.volume.specs.Head.{mark}
use Rattle.volume.proofs.HeadLemmas.{same_fields}
use Rattle.volume.proofs.head.clients_of.Goals as goal

pub returns-then-not-is_head-clause-bad : goal.returns-then-not-is_head-clause-bad
returns-then-not-is_head-clause-bad c = λ clients e.
    let fields = c.fields_of-fields.result in
    let same = same_fields fields.mark.now mark fields.sectors 2596 fields.clients clients c.fields_of-fields.ensures.mark (omega arith) (omega arith) (omega arith) (sym c.fields_of-fields.ensures.fields ∙ e) in
    let yes : c.is_head.result ≡ true = c.is_head.ensures.1 (same.mark, same.sectors) in
    cc
