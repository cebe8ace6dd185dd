-- A line that is too long, piece by piece.
use Rattle.std.proofs.Common.{◌≡◌, ◌≤◌, ◌<◌, ◌+◌, ℕ, List, [], ◌∷◌, ◌++◌, length, take, Option, Some, None, refl, sym, ap, ◌∙◌, append_assoc, append-nil, length-append, subst, arith}
use Rattle.run_status.specs.Taking.{Left, IsTaken}
use Rattle.judge_run.specs.Passing.{IsLongSoFar, FindsLong, GoesOnLong, TakesPiece}
use Rattle.judge_run.specs.Texts.{text_bytes, text_of, IsUncut}
use Rattle.judge_run.specs.Verdicts.{IsBad, IsBig, IsLong, at_line_feed, at_end}
use Rattle.judge_run.specs.declared.long_line.LongLine.{LongLine}
use Rattle.judge_run.specs.declared.verdict.BadTextWhy.{BadTextWhy}
use Rattle.judge_run.specs.declared.verdict.BadTextWhy.TheVariants.{Long}
use Rattle.judge_run.specs.declared.verdict.Verdict.TheVariants.{Bad}
use Rattle.judge_run.proofs.Cutting.{joined_uncut, regroup, behind_line}
use Rattle.judge_run.proofs.Reading.{none_taken, taken_more}

-- the text with a piece that begins with more of the line
with_piece : (begun : LongLine) (lines : List (List ℕ)) (text piece front more : List ℕ) (so : IsLongSoFar begun lines text) → piece ≡ front ++ more → text ++ piece ≡ text_of lines ++ (so.line ++ front) ++ more
with_piece begun lines text piece front more so e = ap (λ (p : List ℕ). text ++ p) e ∙ sym (append_assoc text front more) ∙ ap (λ (t : List ℕ). t ++ front ++ more) so.text_is ∙ regroup (text_of lines) so.line front more

text_size : (begun : LongLine) (lines : List (List ℕ)) (text : List ℕ) → IsLongSoFar begun lines text → length text ≡ begun.before + begun.length
text_size begun lines text so = let a = ap length so.text_is ∙ length-append (text_of lines) so.line in omega (arith, a, so.before_is, so.length_is)

-- the whole piece belongs to the line
pub long_more : (begun : LongLine) (piece front : List ℕ) → IsUncut front → piece ≡ front → begun.before + (begun.length + length front) ≤ 17179869184 → (lines : List (List ℕ)) (text : List ℕ) → IsLongSoFar begun lines text
    → IsLongSoFar (record { number = begun.number; before = begun.before; length = begun.length + length front }) lines (text ++ piece)
long_more begun piece front uncut e within lines text so =
    let size = text_size begun lines text so in
    let a = length-append so.line front in
    let b = length-append text piece in
    let c = ap length e in
    record {
      line = so.line ++ front;
      told = so.told;
      history = so.history;
      fit = so.fit;
      number_is = so.number_is;
      before_is = so.before_is;
      text_is = with_piece begun lines text piece front [] so (e ∙ sym (append-nil front)) ∙ append-nil (text_of lines ++ (so.line ++ front));
      uncut = joined_uncut so.line front so.uncut uncut;
      length_is = omega (arith, a, so.length_is);
      long = omega (arith, a, so.long);
      few = omega (arith, b, c, size, within);
    }

-- the line ends in the piece
pub long_ends : (begun : LongLine) (piece front behind : List ℕ) → IsUncut front → piece ≡ front ++ 10 ∷ behind → length piece ≤ 65536 → begun.before + (begun.length + length front) < 17179869184
    → (left : Option (List ℕ)) (lines : List (List ℕ)) (text : List ℕ) → IsLongSoFar begun lines text → IsLong left lines (text ++ piece)
long_ends begun piece front behind uncut e short within left lines text so =
    let a = length-append so.line front in
    let b = ap length e ∙ length-append front (10 ∷ behind) in
    let c = length-append (text_of lines ++ (so.line ++ front)) (10 ∷ []) in
    let d = length-append (text_of lines) (so.line ++ front) in
    record {
      line = so.line ++ front;
      uncut = joined_uncut so.line front so.uncut uncut;
      long = omega (arith, a, so.long);
      ends = at_line_feed behind (with_piece begun lines text piece front (10 ∷ behind) so e ∙ sym (behind_line (text_of lines) (so.line ++ front) behind)) (omega (arith, b, short)) (omega (arith, a, c, d, so.before_is, so.length_is, within));
    }

-- the byte behind the limit of a text is in the piece, and in the line
pub long_big : (begun : LongLine) (piece front more : List ℕ) → IsUncut front → piece ≡ front ++ more → length piece ≤ 65536 → 17179869184 ≤ begun.before + (begun.length + length front) → 17179869184 < begun.before + (begun.length + length piece)
    → (lines : List (List ℕ)) (text : List ℕ) → IsLongSoFar begun lines text → IsBig lines (text ++ piece)
long_big begun piece front more uncut e short through many lines text so =
    let size = text_size begun lines text so in
    let a = length-append so.line front in
    let b = length-append text piece in
    record {
      line = so.line ++ front;
      behind = more;
      text_is = with_piece begun lines text piece front more so e;
      uncut = joined_uncut so.line front so.uncut uncut;
      through = omega (arith, a, so.before_is, so.length_is, through);
      more = omega (arith, b, size, many);
      few = omega (arith, b, so.few, short);
    }

-- a line that is too long was read up to here
pub record IsLongOn (old : LongLine) (first : Left) (line : LongLine) (now : Left) : Type 0 where
  pub more : List ℕ
  pub read : IsTaken first more now
  pub number_is : line.number ≡ old.number
  pub bounded : line.before + line.length ≤ text_bytes
  pub so : (lines : List (List ℕ)) (text : List ℕ) → IsLongSoFar old lines text → IsLongSoFar line lines (text ++ more)

pub long_begun : (old : LongLine) (first : Left) → old.before + old.length ≤ 17179869184 → IsLongOn old first old first
long_begun old first within = record { more = []; read = none_taken first; number_is = refl; bounded = within; so = λ lines text so. subst (IsLongSoFar old lines) (sym (append-nil text)) so }

pub long_on : (old : LongLine) (first between now : Left) (line new : LongLine) (buffer : List ℕ) (count : ℕ) → IsLongOn old first line between → TakesPiece between buffer count now → GoesOnLong line (take count buffer) None new → IsLongOn old first new now
long_on old first between now line new buffer count on piece goes = record {
  more = on.more ++ take count buffer;
  read = taken_more first between now on.more (take count buffer) on.read piece.read;
  number_is = goes.0 ∙ on.number_is;
  bounded = goes.1;
  so = λ lines text so. subst (IsLongSoFar new lines) (append_assoc text on.more (take count buffer)) (goes.2 lines (text ++ on.more) (on.so lines text so));
}

pub long_found : (old : LongLine) (first between now : Left) (line new : LongLine) (buffer : List ℕ) (count : ℕ) (why : BadTextWhy) → IsLongOn old first line between → TakesPiece between buffer count now → GoesOnLong line (take count buffer) (Some why) new
    → FindsLong first old now (Bad new.number why)
long_found old first between now line new buffer count why on piece goes = record {
  more = on.more ++ take count buffer;
  read = taken_more first between now on.more (take count buffer) on.read piece.read;
  found = λ lines text so. record {
    lines = lines;
    told = so.told;
    history = so.history;
    fit = so.fit;
    number_is = goes.0 ∙ on.number_is ∙ so.number_is;
    bad = subst (λ (t : List ℕ). IsBad now.left lines t why) (append_assoc text on.more (take count buffer)) (goes.1 now.left lines (text ++ on.more) (on.so lines text so));
  };
}

pub long_at_end : (old : LongLine) (first between now : Left) (line : LongLine) (buffer : List ℕ) (count : ℕ) → count ≡ 0 → IsLongOn old first line between → TakesPiece between buffer count now → FindsLong first old now (Bad line.number Long)
long_at_end old first between now line buffer count none on piece =
    let nothing : IsTaken between [] now = subst (λ (n : ℕ). IsTaken between (take n buffer) now) none piece.read in
    record {
      more = on.more;
      read = subst (λ (t : List ℕ). IsTaken first t now) (append-nil on.more) (taken_more first between now on.more [] on.read nothing);
      found = λ lines text so.
          let whole = on.so lines text so in
          record {
            lines = lines;
            told = so.told;
            history = so.history;
            fit = so.fit;
            number_is = on.number_is ∙ so.number_is;
            bad = record { line = whole.line; uncut = whole.uncut; long = whole.long; ends = at_end whole.text_is (piece.ended none) whole.few };
          };
    }
