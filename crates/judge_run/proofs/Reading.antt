-- What becomes of a judgement line by line, piece by piece, to the end of the text.
use Rattle.std.proofs.Common.{◌≡◌, ◌≤◌, ◌<◌, ◌+◌, ℕ, List, [], ◌∷◌, ◌++◌, length, Option, Some, None, refl, sym, ap, ◌∙◌, append_assoc, append-nil, length-append, subst, arith, Result, Ok, Err, IfOk, IfErr}
use Rattle.std.specs.Io.KnownBytes.{prepend_known, IsAtEnd}
use Rattle.cal_base.specs.Faults.{Rose}
use Rattle.run_status.specs.Taking.{Left, IsTaken}
use Rattle.judge_run.specs.Passing.{IsReady, IsFresh, HasRead, HasLong, IsLongSoFar, FindsLong, FindsVerdict, IsBadLine, Passes, TakesFront, EndsPiece, TakesBytes, TakesNext, WhyUnjudged}
use Rattle.judge_run.specs.Texts.{piece_bytes, text_of, IsUncut}
use Rattle.judge_run.specs.Verdicts.{IsFound, IsBad, IsBadText, at_line_feed}
use Rattle.judge_run.specs.declared.judging.Passed.{Passed}
use Rattle.judge_run.specs.declared.judging.Passed.TheVariants.{Fits, Illegal as CannotCome, Bad as IsBadFor}
use Rattle.judge_run.specs.declared.long_line.LongLine.{LongLine}
use Rattle.judge_run.specs.declared.pieces.JudgeError.{JudgeError}
use Rattle.judge_run.specs.declared.pieces.JudgeError.TheVariants.{ReadFault, OutOfMemory}
use Rattle.judge_run.specs.declared.text_judge.TextJudge.{TextJudge}
use Rattle.judge_run.specs.declared.text_judge.PieceEnd.{PieceEnd}
use Rattle.judge_run.specs.declared.text_judge.PieceEnd.TheVariants.{GoesOn, Finds, TooLong}
use Rattle.judge_run.specs.declared.verdict.BadTextWhy.{BadTextWhy}
use Rattle.judge_run.specs.declared.verdict.BadTextWhy.TheVariants.{Big, Long, End, Form}
use Rattle.judge_run.specs.declared.verdict.Verdict.{Verdict}
use Rattle.judge_run.specs.declared.verdict.Verdict.TheVariants.{Illegal, Bad}
use Rattle.judge_run.proofs.Cutting.{none_uncut, joined_uncut, regroup, behind_line, spread}

-- the text with the front of a line, and more
on_front : (judge : TextJudge) (text front more : List ℕ) (read : HasRead judge text) → text ++ front ++ more ≡ text_of read.lines ++ (judge.begun.items ++ front) ++ more
on_front judge text front more read = ap (λ (t : List ℕ). t ++ front ++ more) read.text_is ∙ regroup (text_of read.lines) judge.begun.items front more

-- the byte behind the limit of a text is in the front of a line
pub big_here : (judge : TextJudge) (front : List ℕ) (number : ℕ) → IsReady judge → IsUncut front → length front ≤ 65536 → number ≡ judge.judging.counts.lines + 1
    → 17179869184 < judge.judging.before + (length judge.begun.items + length front) → (left : Option (List ℕ)) (text : List ℕ) → HasRead judge text → IsBadText left (text ++ front) number Big
big_here judge front number ready uncut short is many left text read =
    let keeps = read.keeps in
    let long = length-append judge.begun.items front in
    let whole = length-append text front in
    let text_long : length text ≡ length (text_of read.lines) + length judge.begun.items = ap length read.text_is ∙ length-append (text_of read.lines) judge.begun.items in
    record {
      lines = read.lines;
      told = keeps.told;
      history = keeps.history;
      fit = keeps.fit;
      number_is = omega (arith, is, keeps.lines_are);
      bad = record {
        line = judge.begun.items ++ front;
        behind = [];
        text_is = sym (append-nil (text ++ front)) ∙ on_front judge text front [] read;
        uncut = joined_uncut judge.begun.items front ready.uncut uncut;
        through = omega (arith, long, keeps.before_is, many);
        more = omega (arith, whole, text_long, keeps.before_is, many);
        few = omega (arith, whole, text_long, keeps.before_is, ready.few, short);
      };
    }

-- a line that fits is taken
pub front_fits : (old new : TextJudge) (front : List ℕ) (passed : Passed) → passed ≡ Fits → Passes old.judging (old.begun.items ++ front) passed new.judging → (passed ≡ Fits → new.begun.items ≡ []) → TakesFront old front None new
front_fits old new front passed e passes cleared =
    let taken : Passes old.judging (old.begun.items ++ front) Fits new.judging = subst (λ (p : Passed). Passes old.judging (old.begun.items ++ front) p new.judging) e passes in
    let empty = cleared e in (
      record {
        bounded = taken.0;
        uncut = subst IsUncut (sym empty) none_uncut;
        short = omega (arith, ap length empty);
        few = omega (arith, ap length empty, taken.0.bytes);
      },
      λ text read. record {
        lines = (old.begun.items ++ front) ∷ read.lines;
        keeps = taken.1 read.lines read.keeps;
        text_is = on_front old text front (10 ∷ []) read ∙ sym (append-nil _) ∙ ap (λ (l : List ℕ). text_of ((old.begun.items ++ front) ∷ read.lines) ++ l) (sym empty);
      },
    )

-- the text with a line that ends
ended_line : (judge : TextJudge) (text front behind : List ℕ) (read : HasRead judge text) → text ++ front ++ 10 ∷ behind ≡ text_of ((judge.begun.items ++ front) ∷ read.lines) ++ behind
ended_line judge text front behind read = on_front judge text front (10 ∷ behind) read ∙ sym (behind_line (text_of read.lines) (judge.begun.items ++ front) behind)

-- a line can't come next
pub front_illegal : (old new : TextJudge) (front : List ℕ) (passed : Passed) (number : ℕ) → passed ≡ CannotCome → number ≡ old.judging.counts.lines + 1 → Passes old.judging (old.begun.items ++ front) passed new.judging
    → TakesFront old front (Some (Illegal number)) new
front_illegal old new front passed number e is passes left text behind short read =
    let cannot : Passes old.judging (old.begun.items ++ front) CannotCome new.judging = subst (λ (p : Passed). Passes old.judging (old.begun.items ++ front) p new.judging) e passes in
    let line = cannot read.lines read.keeps in
    record {
      lines = read.lines;
      told = line.told;
      history = line.history;
      line = old.begun.items ++ front;
      next = line.next;
      behind = behind;
      fit = line.fit;
      number_is = omega (arith, is, read.keeps.lines_are);
      text_is = ended_line old text front behind read;
      few = omega (arith, short);
      within = line.within;
      reads = line.reads;
      illegal = line.cannot.cannot;
    }

bad_so : (old : TextJudge) (front : List ℕ) (why : BadTextWhy) → IsReady old → IsUncut front → (left : Option (List ℕ)) (text behind : List ℕ) → length front + length behind < piece_bytes
    → (read : HasRead old text) → IsBadLine read.lines (old.begun.items ++ front) why → IsBad left read.lines (text ++ front ++ 10 ∷ behind) why
bad_so old front Big ready uncut left text behind short read bad =
    let long = length-append old.begun.items front in
    let text_long : length text ≡ length (text_of read.lines) + length old.begun.items = ap length read.text_is ∙ length-append (text_of read.lines) old.begun.items in
    let whole = length-append (text ++ front) (10 ∷ behind) in
    let tail = length-append text front in
    record {
      line = old.begun.items ++ front;
      behind = 10 ∷ behind;
      text_is = on_front old text front (10 ∷ behind) read;
      uncut = joined_uncut old.begun.items front ready.uncut uncut;
      through = bad;
      more = omega (arith, long, whole, tail, text_long, bad);
      few = omega (arith, whole, tail, text_long, read.keeps.before_is, ready.few, short);
    }
bad_so old front Long ready uncut left text behind short read bad = record {
  line = old.begun.items ++ front;
  uncut = joined_uncut old.begun.items front ready.uncut uncut;
  long = bad.1;
  ends = at_line_feed behind (ended_line old text front behind read) (omega (arith, short)) (let a = length-append (text_of read.lines ++ (old.begun.items ++ front)) (10 ∷ []) in let b = length-append (text_of read.lines) (old.begun.items ++ front) in omega (arith, a, b, bad.0));
}
bad_so old front End ready uncut left text behind short read bad = absurd bad
bad_so old front Form ready uncut left text behind short read bad = record {
  line = old.begun.items ++ front;
  behind = behind;
  text_is = ended_line old text front behind read;
  few = omega (arith, short);
  within = bad.0;
  reads = bad.1;
}

-- a line is bad
pub front_bad : (old new : TextJudge) (front : List ℕ) (passed : Passed) (why : BadTextWhy) (number : ℕ) → passed ≡ IsBadFor why → number ≡ old.judging.counts.lines + 1 → IsReady old → IsUncut front
    → Passes old.judging (old.begun.items ++ front) passed new.judging → TakesFront old front (Some (Bad number why)) new
front_bad old new front passed why number e is ready uncut passes left text behind short read =
    let bad : Passes old.judging (old.begun.items ++ front) (IsBadFor why) new.judging = subst (λ (p : Passed). Passes old.judging (old.begun.items ++ front) p new.judging) e passes in
    record {
      lines = read.lines;
      told = read.keeps.told;
      history = read.keeps.history;
      fit = read.keeps.fit;
      number_is = omega (arith, is, read.keeps.lines_are);
      bad = bad_so old front why ready uncut left text behind short read (bad read.lines read.keeps);
    }

-- a piece was taken up to here
pub record IsThrough (old : TextJudge) (piece : List ℕ) (now : TextJudge) (rest : List ℕ) : Type 0 where
  pub ready : IsReady now
  pub front : List ℕ
  pub piece_is : piece ≡ front ++ rest
  pub read : (text : List ℕ) → HasRead old text → HasRead now (text ++ front)

pub before_piece : (old : TextJudge) (piece : List ℕ) → IsReady old → IsThrough old piece old piece
before_piece old piece ready = record { ready = ready; front = []; piece_is = refl; read = λ text read. subst (HasRead old) (sym (append-nil text)) read }

-- a line more of the piece
pub through_line : (old now new : TextJudge) (piece rest front behind : List ℕ) → IsThrough old piece now rest → rest ≡ front ++ 10 ∷ behind → TakesFront now front None new → IsThrough old piece new behind
through_line old now new piece rest front behind through e takes = record {
  ready = takes.0;
  front = through.front ++ front ++ 10 ∷ [];
  piece_is = through.piece_is ∙ ap (λ (r : List ℕ). through.front ++ r) e ∙ sym (append_assoc through.front front (10 ∷ behind)) ∙ sym (behind_line through.front front behind);
  read = λ text read. subst (HasRead new) (spread text through.front front (10 ∷ [])) (takes.1 (text ++ through.front) (through.read text read));
}

-- a line of the piece settles the verdict
pub finds_line : (old now new : TextJudge) (piece rest front behind : List ℕ) (verdict : Verdict) → length piece ≤ 65536 → IsThrough old piece now rest → rest ≡ front ++ 10 ∷ behind → TakesFront now front (Some verdict) new
    → EndsPiece old piece (Finds verdict) new
finds_line old now new piece rest front behind verdict short through e takes left text read =
    let whole : piece ≡ through.front ++ (front ++ (10 ∷ behind)) = through.piece_is ∙ ap (λ (r : List ℕ). through.front ++ r) e in
    let a = length-append through.front (front ++ 10 ∷ behind) in
    let b = length-append front (10 ∷ behind) in
    let few : length front + length behind < piece_bytes = omega (arith, ap length whole, a, b, short) in
    subst (λ (t : List ℕ). IsFound left t verdict) (spread text through.front front (10 ∷ behind) ∙ ap (λ (p : List ℕ). text ++ p) (append_assoc through.front front (10 ∷ behind) ∙ sym whole)) (takes left (text ++ through.front) behind few (through.read text read))

rest_of : (old now : TextJudge) (piece rest part text : List ℕ) (through : IsThrough old piece now rest) → rest ≡ part → (text ++ through.front) ++ part ≡ text ++ piece
rest_of old now piece rest part text through same = append_assoc text through.front part ∙ ap (λ (p : List ℕ). text ++ p) (sym (through.piece_is ∙ ap (λ (r : List ℕ). through.front ++ r) same))

-- the rest of a piece is put off
pub piece_ends : (old now new : TextJudge) (piece rest part : List ℕ) (end : PieceEnd) → IsThrough old piece now rest → rest ≡ part → EndsPiece now part end new → EndsPiece old piece end new
piece_ends old now new piece rest part GoesOn through same ends = (ends.0, λ text read. subst (HasRead new) (rest_of old now piece rest part text through same) (ends.1 (text ++ through.front) (through.read text read)))
piece_ends old now new piece rest part (Finds verdict) through same ends = λ left text read. subst (λ (t : List ℕ). IsFound left t verdict) (rest_of old now piece rest part text through same) (ends left (text ++ through.front) (through.read text read))
piece_ends old now new piece rest part (TooLong size) through same ends = (ends.0, ends.1, λ text read. subst (λ (t : List ℕ). HasLong new t size) (rest_of old now piece rest part text through same) (ends.2 (text ++ through.front) (through.read text read)))

prepend_known-prepend : (a b : List ℕ) (known : Option (List ℕ)) → prepend_known a (prepend_known b known) ≡ prepend_known (a ++ b) known
prepend_known-prepend a b None = refl
prepend_known-prepend a b (Some bytes) = ap Some (sym (append_assoc a b bytes))

prepend_known-nil : (known : Option (List ℕ)) → prepend_known [] known ≡ known
prepend_known-nil None = refl
prepend_known-nil (Some bytes) = refl

pub none_taken : (old : Left) → IsTaken old [] old
none_taken old = record { taken = sym (prepend_known-nil old.left); later = omega arith }

pub taken_more : (old between now : Left) (bytes piece : List ℕ) → IsTaken old bytes between → IsTaken between piece now → IsTaken old (bytes ++ piece) now
taken_more old between now bytes piece first second = record {
  taken = first.taken ∙ ap (prepend_known bytes) second.taken ∙ prepend_known-prepend bytes piece now.left;
  later = omega (arith, first.later, second.later);
}

-- a source that fails later
pub unjudged : (old between now : Left) (bytes : List ℕ) (error : JudgeError) → IsTaken old bytes between → WhyUnjudged between now error → WhyUnjudged old now error
unjudged old between now bytes ReadFault first failed = record {
  bytes = bytes ++ failed.bytes;
  read = taken_more old between now bytes failed.bytes first failed.read;
  rose = let a = first.later in let b : Rose between.faults now.faults = failed.rose in omega arith;
}
unjudged old between now bytes OutOfMemory first later = let a = first.later in let b : between.faults ≤ now.faults = later in omega arith

-- this text was read so far
pub record IsReadSo (first : Left) (judge : TextJudge) (now : Left) : Type 0 where
  pub text : List ℕ
  pub taken : IsTaken first text now
  pub ready : IsReady judge
  pub read : HasRead judge text

pub fresh_so : (first : Left) (judge : TextJudge) → IsFresh judge → IsReadSo first judge first
fresh_so first judge fresh = record { text = []; taken = none_taken first; ready = fresh.ready; read = fresh.read }

pub read_on : (first between now : Left) (old new : TextJudge) → IsReadSo first old between → TakesBytes between old GoesOn new now → IsReadSo first new now
read_on first between now old new so takes = record {
  text = so.text ++ takes.bytes;
  taken = taken_more first between now so.text takes.bytes so.taken takes.read;
  ready = takes.ends.0;
  read = takes.ends.1 so.text so.read;
}

pub found_in : (first between now : Left) (old new : TextJudge) (verdict : Verdict) → IsReadSo first old between → TakesBytes between old (Finds verdict) new now → FindsVerdict first now verdict
found_in first between now old new verdict so takes = record {
  text = so.text ++ takes.bytes;
  read = taken_more first between now so.text takes.bytes so.taken takes.read;
  found = takes.ends now.left so.text so.read;
}

-- the source is at its end
pub found_at_end : (first between now : Left) (old new : TextJudge) (verdict : Verdict) → IsReadSo first old between → TakesNext between old None new now
    → ((left : Option (List ℕ)) (text : List ℕ) → HasRead new text → IsAtEnd left → IsFound left text verdict) → FindsVerdict first now verdict
found_at_end first between now old new verdict so takes ends = record {
  text = so.text;
  read = subst (λ (t : List ℕ). IsTaken first t now) (append-nil so.text) (taken_more first between now so.text [] so.taken takes.0);
  found = ends now.left so.text (subst (λ (j : TextJudge). HasRead j so.text) (sym takes.2) so.read) takes.1;
}

-- the line that was begun is too long
pub found_long : (first between next now : Left) (old new : TextJudge) (size : ℕ) (line : LongLine) (verdict : Verdict) → line ≡ record { number = new.judging.counts.lines + 1; before = new.judging.before; length = size }
    → IsReadSo first old between → TakesBytes between old (TooLong size) new next → FindsLong next line now verdict → FindsVerdict first now verdict
found_long first between next now old new size line verdict is so takes finds =
    let text = so.text ++ takes.bytes in
    let long = takes.ends.2 so.text so.read in
    let begun : IsLongSoFar line long.lines text = subst (λ (l : LongLine). IsLongSoFar l long.lines text) (sym is) (record {
      line = long.line;
      told = long.keeps.told;
      history = long.keeps.history;
      fit = long.keeps.fit;
      number_is = omega (arith, long.keeps.lines_are);
      before_is = long.keeps.before_is;
      text_is = long.text_is;
      uncut = long.uncut;
      length_is = long.size_is;
      long = omega (arith, long.long, long.size_is);
      few = long.few;
    }) in
    record {
      text = text ++ finds.more;
      read = taken_more first next now text finds.more (taken_more first between next so.text takes.bytes so.taken takes.read) finds.read;
      found = finds.found long.lines text begun;
    }

-- the same of what is answered
pub long_ok : (first between next now : Left) (old new : TextJudge) (size : ℕ) (line : LongLine) (result : Result Verdict JudgeError) → line ≡ record { number = new.judging.counts.lines + 1; before = new.judging.before; length = size }
    → IsReadSo first old between → TakesBytes between old (TooLong size) new next → IfOk result (FindsLong next line now) → IfOk result (FindsVerdict first now)
long_ok first between next now old new size line (Ok verdict) is so takes finds = found_long first between next now old new size line verdict is so takes finds
long_ok first between next now old new size line (Err error) is so takes finds = tt

pub long_err : (first between next now : Left) (old new : TextJudge) (size : ℕ) (result : Result Verdict JudgeError) → IsReadSo first old between → TakesBytes between old (TooLong size) new next → IfErr result (WhyUnjudged next now)
    → IfErr result (WhyUnjudged first now)
long_err first between next now old new size (Ok verdict) so takes failed = tt
long_err first between next now old new size (Err error) so takes failed = unjudged first next now (so.text ++ takes.bytes) error (taken_more first between next so.text takes.bytes so.taken takes.read) failed
