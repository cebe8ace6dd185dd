-- What a judgement keeps of the lines so far, and what becomes of it piece by piece.
use Rattle.std.specs.Prelude.{◌≡◌, ◌≤◌, ◌<◌, ◌+◌, ℕ, List, [], ◌∷◌, ◌++◌, length, take, nat_lt, if◌then◌else◌, Option, Some, None, Ok}
use Rattle.std.specs.Io.KnownBytes.{IsAtEnd, append_known}
use Rattle.cal_base.specs.Faults.{Rose}
use Rattle.cal_base.specs.Sink.{TakesPrefix}
use Rattle.tree_law.specs.declared.entry.Entry.{Entry}
use Rattle.history_check.specs.Fits.{FitTo}
use Rattle.history_check.specs.Judging.{Stands}
use Rattle.history_check.specs.declared.told.Told.{Told}
use Rattle.history_check.specs.declared.told.Told.TheVariants.{Starts, Enters, Flushes, Purges, Answers}
use Rattle.run_status.specs.Printing.{line, Held}
use Rattle.run_status.specs.Taking.{Left, IsTaken, IsFailed}
use Rattle.run_status.specs.declared.status.Status.{Status}
use Rattle.run_status.specs.declared.status.Status.TheVariants.{Ok as Fine, Usage, BadScript, ReadFault as NotRead, WriteFault, DiskFault, OutOfMemory as NoRoom, KeyTaken, Illegal as IllegalStatus, BadText}
use Rattle.line_words.specs.Outcome.{outside}
use Rattle.text_lines.specs.Telling.{told_in}
use Rattle.judge_run.specs.Texts.{text_bytes, line_bytes, piece_bytes, text_of, IsUncut, IsWithin, AreFit, answer_count, with_told}
use Rattle.judge_run.specs.Verdicts.{IsFound, IsBad, verdict_line, status_of}
use Rattle.judge_run.specs.declared.judging.Judging.{Judging}
use Rattle.judge_run.specs.declared.judging.Passed.{Passed}
use Rattle.judge_run.specs.declared.judging.Passed.TheVariants.{Fits, Illegal as CannotCome, Bad as IsBadFor}
use Rattle.judge_run.specs.declared.long_line.LongLine.{LongLine}
use Rattle.judge_run.specs.declared.pieces.JudgeError.{JudgeError}
use Rattle.judge_run.specs.declared.pieces.JudgeError.TheVariants.{ReadFault, OutOfMemory}
use Rattle.judge_run.specs.declared.text_judge.TextJudge.{TextJudge}
use Rattle.judge_run.specs.declared.text_judge.PieceEnd.{PieceEnd}
use Rattle.judge_run.specs.declared.text_judge.PieceEnd.TheVariants.{GoesOn, Finds, TooLong}
use Rattle.judge_run.specs.declared.verdict.BadTextWhy.{BadTextWhy}
use Rattle.judge_run.specs.declared.verdict.BadTextWhy.TheVariants.{Big, Long, End, Form}
use Rattle.judge_run.specs.declared.verdict.Counts.{Counts}
use Rattle.judge_run.specs.declared.verdict.Verdict.{Verdict}

-- no count is above the bytes so far, which are within a text
pub record IsBounded (judging : Judging) : Type 0 where
  pub bytes : judging.before ≤ text_bytes
  pub lines : judging.counts.lines ≤ judging.before
  pub entries : judging.counts.entries ≤ judging.before
  pub answers : judging.counts.answers ≤ judging.before

-- the judgement keeps what these lines, which are good and fit, tell
pub record Keeps (judging : Judging) (lines : List (List ℕ)) : Type 0 where
  pub told : List Told
  pub history : List Entry
  pub fit : AreFit lines told history
  pub stands : Stands judging.judge told history
  pub before_is : judging.before ≡ length (text_of lines)
  pub lines_are : judging.counts.lines ≡ length lines
  pub entries_are : judging.counts.entries ≡ length history
  pub answers_are : judging.counts.answers ≡ answer_count told

-- no line was taken yet
pub record IsBegun (judging : Judging) : Type 0 where
  pub bounded : IsBounded judging
  pub keeps : Keeps judging []

-- the limit that a line of this length passes behind so many bytes
abbrev pub limit_passed : ℕ → ℕ → Option BadTextWhy
limit_passed before length = if nat_lt (before + length) text_bytes then (if nat_lt line_bytes length then Some Long else None) else Some Big

-- the counts with what a line tells
abbrev pub counted : Counts → Told → Counts
counted counts (Starts client number call) = counts
counted counts (Enters client number new reply) = record counts { entries = counts.entries + 1 }
counted counts (Flushes client ino) = record counts { entries = counts.entries + 1 }
counted counts (Purges client) = record counts { entries = counts.entries + 1 }
counted counts (Answers client number reply) = record counts { answers = counts.answers + 1 }

-- the lines that were taken fit to no history with what this one tells
pub record CannotFit (told : List Told) (next : Told) : Type 0 where
  pub cannot : (after : List Entry) → ¬ (FitTo (next ∷ told) after)

-- what a judgement keeps, with the line's telling
pub record KeepsTold (old : Judging) (told : List Told) (history : List Entry) (next : Option Told) (size : ℕ) (new : Judging) : Type 0 where
  pub after : List Entry
  pub fit : FitTo (with_told next told) after
  pub stands : Stands new.judge (with_told next told) after
  pub before_is : new.before ≡ old.before + size + 1
  pub lines_are : new.counts.lines ≡ old.counts.lines + 1
  pub entries_are : old.counts.entries ≡ length history → new.counts.entries ≡ length after
  pub answers_are : old.counts.answers ≡ answer_count told → new.counts.answers ≡ answer_count (with_told next told)

-- what is told can't come next
abbrev pub IsRefused : List Told → Option Told → Type 0
IsRefused told None = ⊥
IsRefused told (Some next) = CannotFit told next

-- what becomes of a judgement that takes what a line of this size tells
abbrev pub PassesTold : Judging → Option Told → ℕ → Passed → Judging → Type 0
PassesTold old next size Fits new = IsBounded new × ((told : List Told) (history : List Entry) → Stands old.judge told history → FitTo told history → KeepsTold old told history next size new)
PassesTold old next size CannotCome new = (told : List Told) (history : List Entry) → Stands old.judge told history → FitTo told history → IsRefused told next
PassesTold old next size (IsBadFor why) new = ⊥

-- a line behind these, within the limits, that can't come next
pub record IsIllegalLine (lines : List (List ℕ)) (line : List ℕ) : Type 0 where
  pub told : List Told
  pub history : List Entry
  pub next : Told
  pub fit : AreFit lines told history
  pub within : IsWithin line lines
  pub reads : told_in line ≡ Ok (Some next)
  pub cannot : CannotFit told next

-- why a line behind these is bad
abbrev pub IsBadLine : List (List ℕ) → List ℕ → BadTextWhy → Type 0
IsBadLine lines line Big = text_bytes ≤ length (text_of lines) + length line
IsBadLine lines line Long = (length (text_of lines) + length line < text_bytes) × (line_bytes < length line)
IsBadLine lines line End = ⊥
IsBadLine lines line Form = IsWithin line lines × (told_in line ≡ outside)

-- what becomes of a judgement that takes a line
abbrev pub Passes : Judging → List ℕ → Passed → Judging → Type 0
Passes old line Fits new = IsBounded new × ((lines : List (List ℕ)) → Keeps old lines → Keeps new (line ∷ lines))
Passes old line CannotCome new = (lines : List (List ℕ)) → Keeps old lines → IsIllegalLine lines line
Passes old line (IsBadFor why) new = (lines : List (List ℕ)) → Keeps old lines → IsBadLine lines line why

-- a piece was put into the front of the buffer; none is the end
pub record TakesPiece (old : Left) (buffer : List ℕ) (count : ℕ) (now : Left) : Type 0 where
  pub within : count ≤ length buffer
  pub read : IsTaken old (take count buffer) now
  pub ended : count ≡ 0 → IsAtEnd now.left

-- why a text isn't judged
abbrev pub WhyUnjudged : Left → Left → JudgeError → Type 0
WhyUnjudged old now ReadFault = IsFailed old now
WhyUnjudged old now OutOfMemory = old.faults ≤ now.faults

-- the front of a line that was begun is within the limits
pub record IsReady (judge : TextJudge) : Type 0 where
  pub bounded : IsBounded judge.judging
  pub uncut : IsUncut judge.begun.items
  pub short : length judge.begun.items ≤ line_bytes
  pub few : judge.judging.before + length judge.begun.items ≤ text_bytes

-- this text was read so far: whole lines, which are good and fit, and the front of a line
pub record HasRead (judge : TextJudge) (text : List ℕ) : Type 0 where
  pub lines : List (List ℕ)
  pub keeps : Keeps judge.judging lines
  pub text_is : text ≡ text_of lines ++ judge.begun.items

-- nothing was read yet
pub record IsFresh (judge : TextJudge) : Type 0 where
  pub ready : IsReady judge
  pub read : HasRead judge []

-- the line that was begun is too long, and has so many bytes so far
pub record HasLong (judge : TextJudge) (text : List ℕ) (size : ℕ) : Type 0 where
  pub lines : List (List ℕ)
  pub line : List ℕ
  pub keeps : Keeps judge.judging lines
  pub text_is : text ≡ text_of lines ++ line
  pub uncut : IsUncut line
  pub size_is : size ≡ length line
  pub long : line_bytes < size
  pub few : length text ≤ text_bytes

-- what becomes of the text with a line that ends behind these bytes
abbrev pub TakesFront : TextJudge → List ℕ → Option Verdict → TextJudge → Type 0
TakesFront old front None new = IsReady new × ((text : List ℕ) → HasRead old text → HasRead new (text ++ front ++ 10 ∷ []))
TakesFront old front (Some verdict) new = (left : Option (List ℕ)) (text behind : List ℕ) → length front + length behind < piece_bytes → HasRead old text → IsFound left (text ++ front ++ 10 ∷ behind) verdict

-- what becomes of the text with a piece
abbrev pub EndsPiece : TextJudge → List ℕ → PieceEnd → TextJudge → Type 0
EndsPiece old piece GoesOn new = IsReady new × ((text : List ℕ) → HasRead old text → HasRead new (text ++ piece))
EndsPiece old piece (Finds verdict) new = (left : Option (List ℕ)) (text : List ℕ) → HasRead old text → IsFound left (text ++ piece) verdict
EndsPiece old piece (TooLong size) new = IsBounded new.judging × (new.judging.before + size ≤ text_bytes) × ((text : List ℕ) → HasRead old text → HasLong new (text ++ piece) size)

-- a line behind these that is too long, as far as it was read
pub record IsLongSoFar (begun : LongLine) (lines : List (List ℕ)) (text : List ℕ) : Type 0 where
  pub line : List ℕ
  pub told : List Told
  pub history : List Entry
  pub fit : AreFit lines told history
  pub number_is : begun.number ≡ length lines + 1
  pub before_is : begun.before ≡ length (text_of lines)
  pub text_is : text ≡ text_of lines ++ line
  pub uncut : IsUncut line
  pub length_is : begun.length ≡ length line
  pub long : line_bytes < length line
  pub few : length text ≤ text_bytes

-- a line that is too long, with a piece more
abbrev pub GoesOnLong : LongLine → List ℕ → Option BadTextWhy → LongLine → Type 0
GoesOnLong old piece None new = (new.number ≡ old.number) × (new.before + new.length ≤ text_bytes) × ((lines : List (List ℕ)) (text : List ℕ) → IsLongSoFar old lines text → IsLongSoFar new lines (text ++ piece))
GoesOnLong old piece (Some why) new = (new.number ≡ old.number) × ((left : Option (List ℕ)) (lines : List (List ℕ)) (text : List ℕ) → IsLongSoFar old lines text → IsBad left lines (text ++ piece) why)

-- what is found of a text whose line is too long
pub record FindsLong (old : Left) (long : LongLine) (now : Left) (verdict : Verdict) : Type 0 where
  pub more : List ℕ
  pub read : IsTaken old more now
  pub found : (lines : List (List ℕ)) (text : List ℕ) → IsLongSoFar long lines text → IsFound now.left (text ++ more) verdict

-- what is found of the text of a source
pub record FindsVerdict (old now : Left) (verdict : Verdict) : Type 0 where
  pub text : List ℕ
  pub read : IsTaken old text now
  pub found : IsFound now.left text verdict

-- a piece was read and taken
pub record TakesBytes (old : Left) (judge : TextJudge) (end : PieceEnd) (new : TextJudge) (now : Left) : Type 0 where
  pub bytes : List ℕ
  pub read : IsTaken old bytes now
  pub ends : EndsPiece judge bytes end new

-- the source is at its end, or a piece of it was read and taken
abbrev pub TakesNext : Left → TextJudge → Option PieceEnd → TextJudge → Left → Type 0
TakesNext old judge None new now = IsTaken old [] now × IsAtEnd now.left × (new ≡ judge)
TakesNext old judge (Some end) new now = TakesBytes old judge end new now

-- the line of a verdict was printed, or not
abbrev pub TellsVerdict : Verdict → Held → Status → Held → Type 0
TellsVerdict verdict before Fine now = (status_of verdict ≡ Fine) × (now.held ≡ append_known before.held (line (verdict_line verdict)))
TellsVerdict verdict before IllegalStatus now = (status_of verdict ≡ IllegalStatus) × (now.held ≡ append_known before.held (line (verdict_line verdict)))
TellsVerdict verdict before BadText now = (status_of verdict ≡ BadText) × (now.held ≡ append_known before.held (line (verdict_line verdict)))
TellsVerdict verdict before WriteFault now = TakesPrefix before.held (line (verdict_line verdict)) now.held × Rose before.faults now.faults
TellsVerdict verdict before NoRoom now = now.held ≡ before.held
TellsVerdict verdict before Usage now = ⊥
TellsVerdict verdict before BadScript now = ⊥
TellsVerdict verdict before NotRead now = ⊥
TellsVerdict verdict before DiskFault now = ⊥
TellsVerdict verdict before KeyTaken now = ⊥
