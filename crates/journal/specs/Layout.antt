use Rattle.std.specs.Prelude.{ℕ, ◌+◌, ◌*◌, ◌++◌, zero, suc, Bool, ◌&&◌, nat_eq, nat_le, List, [], ◌∷◌, length, take, drop, replicate, slice_index, slice_index_or}
use Rattle.std.specs.List.{list_all}
use Rattle.shared_disk.specs.Map.{at_header, at_map, first_content, journal_sectors}
use Rattle.cal_base.specs.Limits.{block_size, transaction_homes}
use Rattle.byteorder.specs.Endian.{big_number}
use Rattle.cal_fields.specs.BigEndian.{big_endian}
use Rattle.cal_fields.specs.Padded.{padded}
use Rattle.shared_disk.specs.Homes.{are_ascending, sectors_of}

-- the gate with this first byte and zeros
abbrev pub gate_of : ℕ → List ℕ
gate_of first = padded block_size (first ∷ [])

abbrev pub open_gate : List ℕ
open_gate = gate_of 1

abbrev pub closed_gate : List ℕ
closed_gate = gate_of 0

-- a gate is open where its first byte is 1; nothing else in it counts
abbrev pub opens : List ℕ → Bool
opens gate = nat_eq (slice_index gate 0) 1

-- numbers in four bytes each, the highest first
abbrev pub numbers : List ℕ → List ℕ
numbers [] = []
numbers (n ∷ ns) = big_endian 4 n ++ numbers ns

-- the header of a transaction: the count of its homes, and the homes
abbrev pub header_of : List (ℕ × List ℕ) → List ℕ
header_of homes = padded block_size (length homes ∷ numbers (sectors_of homes))

-- the first so many numbers of four bytes that stand in these bytes
abbrev pub numbers_in : ℕ → List ℕ → List ℕ
numbers_in zero bytes = []
numbers_in (suc n) bytes = big_number 4 bytes ∷ numbers_in n (drop 4 bytes)

-- the homes that a header names
abbrev pub homes_in : List ℕ → List ℕ
homes_in header = numbers_in (slice_index header 0) (drop 1 header)

-- a header is in its grammar: a count of 1 to 16, that many homes ascending, and zeros
abbrev pub is_header : List ℕ → Bool
is_header header =
    let count = slice_index header 0 in
    nat_le 1 count && nat_le count transaction_homes && are_ascending 0 (homes_in header) && list_all (λ byte. nat_eq byte 0) (drop (1 + 4 * count) header)

-- homes with their contents, as far as both go
abbrev pub with_contents : List ℕ → List (List ℕ) → List (ℕ × List ℕ)
with_contents [] contents = []
with_contents (home ∷ homes) [] = []
with_contents (home ∷ homes) (content ∷ contents) = (home, content) ∷ with_contents homes contents

-- the contents of these homes one after the other, from this sector on
abbrev pub contents_at : ℕ → List (ℕ × List ℕ) → List (ℕ × List ℕ)
contents_at at [] = []
contents_at at (home ∷ homes) = (at, home.1) ∷ contents_at (suc at) homes

-- a sector's bytes
abbrev pub sector : List (List ℕ) → ℕ → List ℕ
sector sectors at = slice_index_or sectors at []

-- the sectors that hold contents
abbrev pub body : List (List ℕ) → List (List ℕ)
body sectors = drop first_content (take at_map sectors)

-- the homes and contents that the header and the contents spell
abbrev pub spelled : List (List ℕ) → List (ℕ × List ℕ)
spelled sectors = with_contents (homes_in (sector sectors at_header)) (body sectors)

-- the sectors of the volume: those of the disk, with the journal's own blank
abbrev pub outside : List (List ℕ) → List (List ℕ)
outside [] = []
outside (head ∷ rest) = head ∷ (replicate journal_sectors [] ++ drop journal_sectors rest)
