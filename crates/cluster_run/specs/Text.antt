-- The texts of a command that is no run.
use Rattle.std.specs.Prelude.{ℕ, List, ◌++◌, codes}
use Rattle.std.specs.Fmt.{decimal}
use Rattle.script.specs.declared.bad_line.BadLine.{BadLine}
use Rattle.script.specs.declared.bad_line.BadWhy.{BadWhy}
use Rattle.script.specs.declared.bad_line.BadWhy.TheVariants.{Big, Many, Long, Byte, First, Word, Count as Counted, Number, Path, Hex}
pub use Rattle.run_status.specs.Printing.{line}

abbrev pub bad_why_text : BadWhy → List ℕ
bad_why_text Big = codes "Big"
bad_why_text Many = codes "Many"
bad_why_text Long = codes "Long"
bad_why_text Byte = codes "Byte"
bad_why_text First = codes "First"
bad_why_text Word = codes "Word"
bad_why_text Counted = codes "Count"
bad_why_text Number = codes "Number"
bad_why_text Path = codes "Path"
bad_why_text Hex = codes "Hex"

-- a line of the script is bad
abbrev pub bad_line : BadLine → List ℕ
bad_line bad = codes "BadScript " ++ decimal bad.line ++ codes " " ++ bad_why_text bad.why

-- the disk is under this key already
abbrev pub key_line : ℕ → List ℕ
key_line key = codes "KeyTaken " ++ decimal key
