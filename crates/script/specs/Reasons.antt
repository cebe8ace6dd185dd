-- What a numbered line says, or the first reason why it is bad.
use Rattle.std.specs.Prelude.{◌≡◌, ◌==◌, ◌&&◌, ℕ, Bool, false, List, [], ◌∷◌, length, nat_lt, nat_le, if◌then◌else◌, Result, Ok, Err}
use Rattle.std.specs.List.{list_all}
use Rattle.cal_base.specs.Limits as limits
use Rattle.script.specs.CommandLine.{first_said, words_said}
use Rattle.script.specs.Lines.{NumberedLine}
use Rattle.script.specs.Outcome.{then_read}
use Rattle.script.specs.Words.{words}
use Rattle.script.specs.declared.bad_line.BadWhy.{BadWhy}
use Rattle.script.specs.declared.bad_line.BadWhy.TheVariants.{Big, Many, Long, Byte}
use Rattle.script.specs.declared.script.Said.{Said}
use Rattle.script.specs.declared.script.Said.TheVariants.{Nothing}

-- a graphic byte of ASCII, or space
abbrev pub is_plain : ℕ → Bool
is_plain byte = nat_le 32 byte && nat_le byte 126

-- within the script's bytes and lines, and the line's bytes; plain bytes alone
abbrev pub fits : NumberedLine → Result (Unit {0}) BadWhy
fits line =
    if nat_lt limits.script_bytes line.through then Err Big
    else if nat_lt limits.script_lines line.number then Err Many
    else if nat_lt limits.line_bytes (length line.text) then Err Long
    else if list_all is_plain line.text then Ok tt
    else Err Byte

-- the first byte is `#`
abbrev pub is_comment : List ℕ → Bool
is_comment [] = false
is_comment (byte ∷ text) = byte == 35

-- what a text says as the line of this number
abbrev pub text_said : ℕ → List ℕ → Result Said BadWhy
text_said number text = if number == 1 then first_said (words text) else if is_comment text then Ok Nothing else words_said number (words text)

-- what a line says, or the first reason why it is bad
abbrev pub line_said : NumberedLine → Result Said BadWhy
line_said line = then_read (fits line) (λ none. text_said line.number line.text)

-- this is the first reason why the line is bad
abbrev pub IsFirstReason : NumberedLine → BadWhy → Type 0
IsFirstReason line why = line_said line ≡ Err why

-- the line isn't bad: it says this
pub record IsGood (line : NumberedLine) : Type 0 where
  pub said : Said
  pub is : line_said line ≡ Ok said
