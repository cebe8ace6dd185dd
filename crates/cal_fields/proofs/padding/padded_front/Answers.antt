use Rattle.std.proofs.Common.{◌≡◌, ap, ◌∙◌, length, take, true}
use Rattle.std.proofs.lemmas.List.{take_rest}
use Rattle.cal_fields.proofs.PaddedLemmas.{padded_from-zeros, take-padded, zeros_from-padded}
use Rattle.cal_fields.proofs.padding.padded_front.Goals as goal

pub returns-then-is_zeros-clause-found : goal.returns-then-is_zeros-clause-found
returns-then-is_zeros-clause-found c =
    padded_from-zeros c.args.count c.args.bytes.now _ c.requires (take_rest c.args.bytes.now c.args.count) (c.is_zeros.ensures.0 c.if-is_zeros.true)

pub returns-then-is_zeros-clause-again : goal.returns-then-is_zeros-clause-again
returns-then-is_zeros-clause-again c = λ front same e.
    ap (take c.args.count) e ∙ take-padded (length c.args.bytes.now) c.args.count front same

pub returns-clause-again : goal.returns-clause-again
returns-clause-again c = λ front same e.
    let zero = zeros_from-padded c.args.count (length c.args.bytes.now) c.args.bytes.now _ front (take_rest c.args.bytes.now c.args.count) same e in
    let yes : c.is_zeros.result ≡ true = c.is_zeros.ensures.1 zero in
    cc
