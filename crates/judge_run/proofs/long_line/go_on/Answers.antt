use Rattle.std.proofs.Common.{refl, sym, ◌∙◌, append-nil, length-append, ◌∷◌, ap, length, arith}
use Rattle.std.proofs.lemmas.Bool.Decides.{nat_tests}
use Rattle.judge_run.proofs.Cutting.{cut_front}
use Rattle.judge_run.proofs.LongLines.{long_more, long_ends, long_big}
use Rattle.judge_run.proofs.long_line.go_on.Goals as goal

pub returns-in-Some : goal.returns-in-Some
returns-in-Some c =
    let whole = rw c.in-Some.is at c.cut_at.ensures.whole in
    (refl, long_ends c.args.line.now c.args.piece.now c.cut_at.result.0.now c.in-Some.field-0.now (cut_front c.args.piece.now c.cut_at.result.0.now _ c.cut_at.ensures.parts) whole c.requires.short (grind (arith, nat_tests)))

pub returns-in-Some-2 : goal.returns-in-Some-2
returns-in-Some-2 c =
    let whole = rw c.in-Some-2.is at c.cut_at.ensures.whole in
    (refl, λ left. long_big c.args.line.now c.args.piece.now c.cut_at.result.0.now _ (cut_front c.args.piece.now c.cut_at.result.0.now _ c.cut_at.ensures.parts) whole c.requires.short (grind (arith, nat_tests)) (let e = ap length whole in let a = length-append c.cut_at.result.0.now (10 ∷ c.in-Some-2.field-0.now) in grind (arith, nat_tests)))

pub returns-in-None : goal.returns-in-None
returns-in-None c =
    let whole = rw c.in-None.is at c.cut_at.ensures.whole in
    (refl, λ left. long_big c.args.line.now c.args.piece.now c.cut_at.result.0.now _ (cut_front c.args.piece.now c.cut_at.result.0.now _ c.cut_at.ensures.parts) (whole ∙ sym (append-nil _)) c.requires.short (grind (arith, nat_tests)) (let e = ap length whole in grind (arith, nat_tests)))

pub returns-in-None-2 : goal.returns-in-None-2
returns-in-None-2 c =
    let whole = rw c.in-None-2.is at c.cut_at.ensures.whole in
    (refl, grind (arith, nat_tests), long_more c.args.line.now c.args.piece.now c.cut_at.result.0.now (cut_front c.args.piece.now c.cut_at.result.0.now _ c.cut_at.ensures.parts) whole (grind (arith, nat_tests)))
