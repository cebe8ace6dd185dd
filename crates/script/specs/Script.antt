use Rattle.std.specs.Prelude.{◌≡◌, ◌≤◌, ℕ, List, [], ◌∷◌, ◌++◌, length, All, Result, Ok, Err, ⊤}
use Rattle.cal_base.specs.Limits as limits
use Rattle.script.specs.Lines.{NumberedLine, lines_of}
use Rattle.script.specs.Reasons.{IsGood, IsFirstReason, line_said}
use Rattle.script.specs.Spelling.{IsLine}
use Rattle.script.specs.declared.bad_line.BadLine.{BadLine}
use Rattle.script.specs.declared.bad_line.BadWhy.{BadWhy}
use Rattle.script.specs.declared.reading.ReadScriptError.{ReadScriptError}
use Rattle.script.specs.declared.reading.ReadScriptError.TheVariants.{BadLine as Bad, OutOfMemory}
use Rattle.script.specs.declared.script.Script.{Script}
use Rattle.script.specs.declared.script.Said.{Said}
use Rattle.script.specs.declared.script.Said.TheVariants.{Nothing, Clients, Window, Line as Does}

-- a script and what one more line says: the count of clients, the window, or a line with its number
abbrev pub with_said : Script → ℕ → Said → Script
with_said script number Nothing = script
with_said script number (Clients count) = record { clients = count; window = script.window; lines = script.lines }
with_said script number (Window window) = record { clients = script.clients; window = window; lines = script.lines }
with_said script number (Does line) = record { clients = script.clients; window = script.window; lines = script.lines ++ (number, line) ∷ [] }

-- a script and one more line, where it says something
abbrev pub with_read : Script → ℕ → Result Said BadWhy → Script
with_read script number (Ok said) = with_said script number said
with_read script number (Err why) = script

-- a script and what these lines say, one after the other, each read by itself
abbrev pub with_lines : Script → List NumberedLine → Script
with_lines script [] = script
with_lines script (line ∷ lines) = with_lines (with_read script line.number (line_said line)) lines

-- no line yet, and a window of 4
abbrev pub no_lines : Script
no_lines = record { clients = 0; window = 4; lines = [] }

-- the bytes are this script
pub record IsScript (bytes : List ℕ) (script : Script) : Type 0 where
  pub good : All IsGood (lines_of bytes)
  pub says : script ≡ with_lines no_lines (lines_of bytes)

-- a script whose counts and lines are within the limits of their places, with at most 65,536 lines
pub record IsSpelledScript (script : Script) : Type 0 where
  pub clients : (1 ≤ script.clients) × (script.clients ≤ limits.clients)
  pub window : (1 ≤ script.window) × (script.window ≤ limits.window)
  pub lines : All (λ line. IsLine line.1) script.lines
  pub few : length script.lines ≤ limits.script_lines

-- the first of the lines to which a reason applies, and the first of its reasons
pub record IsFirstBad (lines : List NumberedLine) (bad : BadLine) : Type 0 where
  pub before : List NumberedLine
  pub line : NumberedLine
  pub behind : List NumberedLine
  pub lines_are : lines ≡ before ++ line ∷ behind
  pub good : All IsGood before
  pub number : bad.line ≡ line.number
  pub reason : IsFirstReason line bad.why

-- why the lines were not read
abbrev pub WhyNotRead : List NumberedLine → ReadScriptError → Type 0
WhyNotRead lines (Bad bad) = IsFirstBad lines bad
WhyNotRead lines OutOfMemory = ⊤

-- a line is bad for this reason
abbrev pub WhyBad : NumberedLine → ReadScriptError → Type 0
WhyBad line (Bad bad) = (bad.line ≡ line.number) × IsFirstReason line bad.why
WhyBad line OutOfMemory = ⊤
