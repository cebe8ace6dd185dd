use Rattle.std.proofs.Common.{◌≡◌, ◌+◌, length, refl, ap, ◌∙◌, arith}
use Rattle.std.specs.Option.{option_map_or}
use Rattle.script.specs.Lines.{parts_of}
use Rattle.script.proofs.LinesRead.{none_read, one_more, next_is_bad, good_is_small}
use Rattle.script.proofs.reading.read_lines.Goals as goal

pub loop-left-init : goal.loop-left-init
loop-left-init c = record { read = none_read _ 2 _ _ _ refl (omega arith) (omega arith); whole = refl; fits = c.requires.within; small = c.requires.begun }

pub returns-in-Err-clause-bad : goal.returns-in-Err-clause-bad
returns-in-Err-clause-bad c =
    next_is_bad _ _ _ _ _ _ c.cut_line-line.result.rest _ _ _ c.loop-left.invariant.read (ap parts_of c.in-Some.is ∙ c.cut_line-line.ensures.parts) c.cut_line-line.ensures.taken c.if-line-eq0.false c.in-Err.ensures.bad

pub loop-left-preserved : goal.loop-left-preserved
loop-left-preserved c =
    let whole : c.loop-left.through + length c.in-Some.text.now ≡ c.args.first + option_map_or (λ text. length text.now) c.args.rest 0 = rw c.in-Some.is at c.loop-left.invariant.whole in
    record {
      read = one_more _ _ _ _ _ _ c.cut_line-line.result.rest _ _ _ c.in-Ok.said c.loop-left.invariant.read (ap parts_of c.in-Some.is ∙ c.cut_line-line.ensures.parts) c.cut_line-line.ensures.taken c.if-line-eq0.false c.in-Ok.ensures.said c.in_ok-say-in-Ok.ensures;
      whole = omega (arith, c.cut_line-line.ensures.whole);
      fits = c.loop-left.invariant.fits;
      small = good_is_small c.loop-left.number (c.loop-left.through + c.cut_line-line.result.taken) c.cut_line-line.result.text.now _ c.in-Ok.ensures.said;
    }
