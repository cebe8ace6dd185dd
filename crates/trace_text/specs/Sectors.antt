-- Sectors of the disk, and writes to them.
use Rattle.std.specs.Prelude.{ℕ, ◌==◌, List, [], ◌∷◌, ◌++◌, codes, if◌then◌else◌}
use Rattle.std.specs.Fmt.{decimal}
use Rattle.trace_text.specs.Line.{line, hex_or_dash}

-- a byte in front of others: a zero byte in front of nothing goes
abbrev pub kept_before : ℕ → List ℕ → List ℕ
kept_before byte [] = if byte == 0 then [] else byte ∷ []
kept_before byte (next ∷ bytes) = byte ∷ next ∷ bytes

-- bytes without the zero bytes at their end
abbrev pub trimmed : List ℕ → List ℕ
trimmed [] = []
trimmed (byte ∷ bytes) = kept_before byte (trimmed bytes)

-- a sector in hexadecimal without the zero bytes at its end, or a dash where all are zero
abbrev pub sector_text : List ℕ → List ℕ
sector_text bytes = hex_or_dash (trimmed bytes)

-- a write that the disk accepted: the sector's number and its bytes
abbrev pub write_line : ℕ × List ℕ → List ℕ
write_line write = codes "write " ++ decimal write.0 ++ codes " " ++ sector_text write.1

-- a line for each write, in order
abbrev pub writes_text : List (ℕ × List ℕ) → List ℕ
writes_text [] = []
writes_text (write ∷ writes) = line (write_line write) ++ writes_text writes
