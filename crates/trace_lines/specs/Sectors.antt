-- Bytes and sectors in hexadecimal, and the body of a packet.
use Rattle.std.specs.Prelude.{ℕ, ◌-◌, ◌==◌, ◌&&◌, not, Bool, List, [], ◌∷◌, ◌++◌, length, get_or, replicate, nat_lt, nat_le, if◌then◌else◌, Option, Some, None, Result, Ok, codes, bytes_eq}
use Rattle.cal_base.specs.Limits as limits
use Rattle.trace_text.specs.Packets.{body_name}
use Rattle.line_words.specs.Outcome.{outside, then_read}
use Rattle.line_words.specs.Values.{hex_of}
use Rattle.line_words.specs.declared.read_error.OutOfForm.{OutOfForm}
use Rattle.trace_lines.specs.Words.{one_word}

-- one byte or more
abbrev pub some_bytes_of : List ℕ → Result (List ℕ) OutOfForm
some_bytes_of word = if nat_lt 0 (length word) then hex_of word else outside

-- bytes, or a dash for none
abbrev pub bytes_of : List ℕ → Result (List ℕ) OutOfForm
bytes_of word = if bytes_eq word (codes "-") then Ok [] else some_bytes_of word

-- the last byte is zero
abbrev pub ends_in_zero : List ℕ → Bool
ends_in_zero bytes = nat_lt 0 (length bytes) && (get_or bytes (length bytes - 1) 0 == 0)

-- bytes and then zeros, up to the size of a sector
abbrev pub padded : List ℕ → List ℕ
padded bytes = bytes ++ replicate (limits.block_size - length bytes) 0

-- the sector that begins with these bytes, of which the last isn't zero
abbrev pub sector_with : List ℕ → Result (List ℕ) OutOfForm
sector_with bytes = if nat_le (length bytes) limits.block_size && not (ends_in_zero bytes) then Ok (padded bytes) else outside

-- a sector without the zero bytes at its end
abbrev pub sector_of : List ℕ → Result (List ℕ) OutOfForm
sector_of word = then_read (bytes_of word) sector_with

-- what a stop leaves of the write that it cuts off: nothing, or a sector
abbrev pub torn_of : List ℕ → Result (Option (List ℕ)) OutOfForm
torn_of word = if bytes_eq word (codes "clean") then Ok None else then_read (sector_of word) (λ sector. Ok (Some sector))

-- a body that this word names
abbrev pub named_body : List ℕ → List ℕ → Result (List ℕ) OutOfForm
named_body name body = if bytes_eq name (body_name body) then Ok body else outside

-- the name of what a packet carries, and its bytes
abbrev pub body_in : List (List ℕ) → Result (List ℕ) OutOfForm
body_in [] = outside
body_in (name ∷ behind) =
    then_read (one_word behind) (λ word.
    then_read (bytes_of word) (λ body.
    named_body name body))
