use Rattle.std.specs.Prelude.{◌==◌, ◌+◌, ◌&&◌, ℕ, List, [], ◌∷◌, length, nat_lt, if◌then◌else◌, Option, Some, None}
use Rattle.std.specs.Borrow.{Bor}
use Rattle.std.specs.List.{slice_split}

-- a line of a script: its number from 1, the count of bytes of the script up to its end, its line feed
-- included, and its text without the line feed
pub record NumberedLine : Type 0 where
  pub number : ℕ
  pub through : ℕ
  pub text : List ℕ

-- what stands behind the last line feed: no line where it is empty, but for the first
abbrev pub last_line : ℕ → ℕ → List ℕ → List NumberedLine
last_line number at text = if (length text == 0) && nat_lt 1 number then [] else record { number = number; through = at + length text; text = text } ∷ []

-- the lines of these parts between line feeds, numbered from here
abbrev pub numbered : ℕ → ℕ → List (List ℕ) → List NumberedLine
numbered number at [] = []
numbered number at (text ∷ []) = last_line number at text
numbered number at (text ∷ next ∷ parts) = record { number = number; through = at + length text + 1; text = text } ∷ numbered (number + 1) (at + length text + 1) (next ∷ parts)

-- the lines of a script; the empty one has one empty line
abbrev pub lines_of : List ℕ → List NumberedLine
lines_of bytes = numbered 1 0 (slice_split (λ byte. byte == 10) bytes)

-- the parts of what stands behind a line feed, if there is one
abbrev pub parts_of : Option (Bor (List ℕ)) → List (List ℕ)
parts_of None = []
parts_of (Some rest) = slice_split (λ byte. byte == 10) rest.now
