-- What is found of a text, from the bytes that were read of it and what the source then has left.
use Rattle.std.specs.Prelude.{◌≡◌, ◌<◌, ◌≤◌, ◌+◌, ℕ, List, ◌∷◌, ◌++◌, length, Option, Some, Ok, codes}
use Rattle.std.specs.Fmt.{decimal}
use Rattle.std.specs.Io.KnownBytes.{IsAtEnd}
use Rattle.tree_law.specs.declared.entry.Entry.{Entry}
use Rattle.history_check.specs.Fits.{FitTo}
use Rattle.history_check.specs.declared.told.Told.{Told}
use Rattle.line_words.specs.Outcome.{outside}
use Rattle.text_lines.specs.Telling.{told_in}
use Rattle.run_status.specs.declared.status.Status.{Status}
use Rattle.run_status.specs.declared.status.Status.TheVariants.{Ok as Fine, Illegal as IllegalStatus, BadText}
use Rattle.judge_run.specs.Texts.{text_bytes, line_bytes, piece_bytes, text_of, IsUncut, IsWithin, AreFit, answer_count}
use Rattle.judge_run.specs.declared.verdict.BadTextWhy.{BadTextWhy}
use Rattle.judge_run.specs.declared.verdict.BadTextWhy.TheVariants.{Big, Long, End, Form}
use Rattle.judge_run.specs.declared.verdict.Counts.{Counts}
use Rattle.judge_run.specs.declared.verdict.Verdict.{Verdict}
use Rattle.judge_run.specs.declared.verdict.Verdict.TheVariants.{Legal, Illegal, Bad}

-- the text was read to its end, and all its lines are good and fit to a history, which has so many
-- entries; so many answers are told
pub record IsLegalText (left : Option (List ℕ)) (text : List ℕ) (counts : Counts) : Type 0 where
  pub lines : List (List ℕ)
  pub told : List Told
  pub history : List Entry
  pub fit : AreFit lines told history
  pub text_is : text ≡ text_of lines
  pub ended : IsAtEnd left
  pub lines_are : counts.lines ≡ length lines
  pub entries_are : counts.entries ≡ length history
  pub answers_are : counts.answers ≡ answer_count told

-- the lines before the one of this number are good and fit to a history; this one is within the limits
-- and in its form, and tells something with which they fit to none. Less than a piece was read behind it
pub record IsIllegalText (text : List ℕ) (number : ℕ) : Type 0 where
  pub lines : List (List ℕ)
  pub told : List Told
  pub history : List Entry
  pub line : List ℕ
  pub next : Told
  pub behind : List ℕ
  pub fit : AreFit lines told history
  pub number_is : number ≡ length lines + 1
  pub text_is : text ≡ text_of (line ∷ lines) ++ behind
  pub few : length behind < piece_bytes
  pub within : IsWithin line lines
  pub reads : told_in line ≡ Ok (Some next)
  pub illegal : (after : List Entry) → ¬ (FitTo (next ∷ told) after)

-- the line behind these has the text's byte 17,179,869,185: the text goes on behind its byte
-- 17,179,869,184, and up to there no line feed stands in the line. At most a piece was read from there
pub record IsBig (lines : List (List ℕ)) (text : List ℕ) : Type 0 where
  pub line : List ℕ
  pub behind : List ℕ
  pub text_is : text ≡ text_of lines ++ line ++ behind
  pub uncut : IsUncut line
  pub through : text_bytes ≤ length (text_of lines) + length line
  pub more : text_bytes < length text
  pub few : length text ≤ text_bytes + piece_bytes

-- a line behind these ends here: with its line feed, less than a piece before the end of what was read; or
-- where the source ends
pub data EndsIn (left : Option (List ℕ)) (lines : List (List ℕ)) (line : List ℕ) (text : List ℕ) : Type 0 where
  at_line_feed : (behind : List ℕ) → text ≡ text_of (line ∷ lines) ++ behind → length behind < piece_bytes → length (text_of (line ∷ lines)) ≤ text_bytes → EndsIn left lines line text
  at_end : text ≡ text_of lines ++ line → IsAtEnd left → length text ≤ text_bytes → EndsIn left lines line text

-- the line behind these is too long, and not too far behind
pub record IsLong (left : Option (List ℕ)) (lines : List (List ℕ)) (text : List ℕ) : Type 0 where
  pub line : List ℕ
  pub uncut : IsUncut line
  pub long : line_bytes < length line
  pub ends : EndsIn left lines line text

-- the line behind these, within the limits, lacks its line feed: the source ends behind it
pub record LacksEnd (left : Option (List ℕ)) (lines : List (List ℕ)) (text : List ℕ) : Type 0 where
  pub line : List ℕ
  pub uncut : IsUncut line
  pub some : 0 < length line
  pub short : length line ≤ line_bytes
  pub text_is : text ≡ text_of lines ++ line
  pub ended : IsAtEnd left
  pub few : length text ≤ text_bytes

-- the line behind these, within the limits, is outside its form; less than a piece was read behind it
pub record IsOutOfForm (lines : List (List ℕ)) (text : List ℕ) : Type 0 where
  pub line : List ℕ
  pub behind : List ℕ
  pub text_is : text ≡ text_of (line ∷ lines) ++ behind
  pub few : length behind < piece_bytes
  pub within : IsWithin line lines
  pub reads : told_in line ≡ outside

-- the line behind these is bad for this reason, and for none before it
abbrev pub IsBad : Option (List ℕ) → List (List ℕ) → List ℕ → BadTextWhy → Type 0
IsBad left lines text Big = IsBig lines text
IsBad left lines text Long = IsLong left lines text
IsBad left lines text End = LacksEnd left lines text
IsBad left lines text Form = IsOutOfForm lines text

-- the lines before the one of this number are good and fit to a history; this one is bad, with this first
-- reason
pub record IsBadText (left : Option (List ℕ)) (text : List ℕ) (number : ℕ) (why : BadTextWhy) : Type 0 where
  pub lines : List (List ℕ)
  pub told : List Told
  pub history : List Entry
  pub fit : AreFit lines told history
  pub number_is : number ≡ length lines + 1
  pub bad : IsBad left lines text why

-- what is found of a text
abbrev pub IsFound : Option (List ℕ) → List ℕ → Verdict → Type 0
IsFound left text (Legal counts) = IsLegalText left text counts
IsFound left text (Illegal number) = IsIllegalText text number
IsFound left text (Bad number why) = IsBadText left text number why

abbrev pub bad_text_why : BadTextWhy → List ℕ
bad_text_why Big = codes "Big"
bad_text_why Long = codes "Long"
bad_text_why End = codes "End"
bad_text_why Form = codes "Form"

-- the line that tells a verdict
abbrev pub verdict_line : Verdict → List ℕ
verdict_line (Legal counts) = codes "legal entries " ++ decimal counts.entries ++ codes " answers " ++ decimal counts.answers
verdict_line (Illegal number) = codes "illegal " ++ decimal number
verdict_line (Bad number why) = codes "BadText " ++ decimal number ++ codes " " ++ bad_text_why why

-- how a judgement ends whose verdict is printed
abbrev pub status_of : Verdict → Status
status_of (Legal counts) = Fine
status_of (Illegal number) = IllegalStatus
status_of (Bad number why) = BadText
