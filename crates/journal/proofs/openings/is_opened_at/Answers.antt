use Rattle.std.proofs.Common.{ℕ, Bool, ◌&&◌, [], slice_index_or, sym, ap, ◌∙◌, arith}
use Rattle.std.proofs.lemmas.Bool.{ne_eqb}
use Rattle.journal.specs.Commit.{opens_gate}
use Rattle.journal.specs.Layout.{opens}
use Rattle.journal.proofs.OpeningLemmas.{opened_past, opened_there}
use Rattle.journal.proofs.openings.is_opened_at.Goals as goal

pub returns-then-place-kept : goal.returns-then-place-kept
returns-then-place-kept c = sym (opened_past c.args.kept.now c.args.place (let h = c.if-place-kept.true in omega arith))

pub returns-then-kept-place-eq-AT_GATE : goal.returns-then-kept-place-eq-AT_GATE
returns-then-kept-place-eq-AT_GATE c =
    let write = slice_index_or c.args.kept.now c.args.place (0, []) in
    c.is_open.ensures
    ∙ sym (opened_there c.args.kept.now c.args.place (let h = c.if-place-kept.false in omega arith) ∙ ap (λ (at : ℕ). opens_gate at write.1) c.if-kept-place-eq-AT_GATE.true)

pub returns-else-kept-place-eq-AT_GATE : goal.returns-else-kept-place-eq-AT_GATE
returns-else-kept-place-eq-AT_GATE c =
    let write = slice_index_or c.args.kept.now c.args.place (0, []) in
    let apart = ne_eqb write.0 1 c.if-kept-place-eq-AT_GATE.false in
    apart
    ∙ sym (opened_there c.args.kept.now c.args.place (let h = c.if-place-kept.false in omega arith) ∙ ap (λ (b : Bool). b && opens write.1) apart)
