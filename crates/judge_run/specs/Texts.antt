-- The lines of a text, and what they tell. Lines, what they tell, and histories stand newest first.
use Rattle.std.specs.Prelude.{◌≡◌, ◌≢◌, ◌≤◌, ◌+◌, ℕ, All, List, [], ◌∷◌, ◌++◌, length, Option, Some, None, Ok}
use Rattle.tree_law.specs.declared.entry.Entry.{Entry}
use Rattle.history_check.specs.Fits.{FitTo}
use Rattle.history_check.specs.declared.told.Told.{Told}
use Rattle.history_check.specs.declared.told.Told.TheVariants.{Answers}
use Rattle.text_lines.specs.Telling.{told_in}

-- bytes of a text
abbrev pub text_bytes : ℕ
text_bytes = 17179869184

-- bytes of one line of a text, its line feed not counted
abbrev pub line_bytes : ℕ
line_bytes = 8388608

-- bytes that are read at a time
abbrev pub piece_bytes : ℕ
piece_bytes = 65536

-- the text of these lines, each ended by a line feed
abbrev pub text_of : List (List ℕ) → List ℕ
text_of [] = []
text_of (line ∷ earlier) = text_of earlier ++ line ++ 10 ∷ []

-- no line feed stands in it
abbrev pub IsUncut : List ℕ → Type 0
IsUncut line = All (λ byte. byte ≢ 10) line

-- a line within the limits, behind these: with its line feed the text isn't too big
pub record IsWithin (line : List ℕ) (earlier : List (List ℕ)) : Type 0 where
  pub uncut : IsUncut line
  pub short : length line ≤ line_bytes
  pub few : length (text_of (line ∷ earlier)) ≤ text_bytes

-- what is told so far, with what a line tells, if it tells something
abbrev pub with_told : Option Told → List Told → List Told
with_told None before = before
with_told (Some told) before = told ∷ before

-- the next line is within the limits and in its form, and tells this
pub record IsGood (line : List ℕ) (earlier : List (List ℕ)) (before told : List Told) : Type 0 where
  pub within : IsWithin line earlier
  pub tells : Option Told
  pub reads : told_in line ≡ Ok tells
  pub told_is : told ≡ with_told tells before

-- good lines, with what they tell
abbrev pub AreGood : List (List ℕ) → List Told → Type 0
AreGood [] told = told ≡ []
AreGood (line ∷ earlier) told = (before : List Told) × AreGood earlier before × IsGood line earlier before told

-- good lines whose telling fits to a history
pub record AreFit (lines : List (List ℕ)) (told : List Told) (history : List Entry) : Type 0 where
  pub good : AreGood lines told
  pub fit : FitTo told history

-- how many answers are told
abbrev pub answer_count : List Told → ℕ
answer_count [] = 0
answer_count (Answers client number reply ∷ earlier) = 1 + answer_count earlier
answer_count (_ ∷ earlier) = answer_count earlier
