use Rattle.std.proofs.Common.{◌++◌, ◌∷◌, [], sym, ap, ◌∙◌}
use Rattle.report.specs.Report.{full_piece}
use Rattle.report.proofs.Joined.{full_pieces-zero, full_pieces-more}
use Rattle.report.proofs.cut.Goals as goal

pub loop-index-init : goal.loop-index-init
loop-index-init c = c.new-report.ensures ∙ sym (full_pieces-zero c.args.holds.now)

pub loop-index-preserved : goal.loop-index-preserved
loop-index-preserved c =
    c.in_ok-push.ensures.ok ∙ ap (λ p. c.loop-index.report ++ p ∷ []) c.in_ok-full_piece.ensures
    ∙ ap (λ r. r ++ full_piece c.args.holds.now c.loop-index.index ∷ []) c.loop-index.invariant ∙ sym (full_pieces-more c.args.holds.now c.loop-index.index)
