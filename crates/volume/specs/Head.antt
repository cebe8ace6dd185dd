-- The head of a volume.
use Rattle.std.specs.Prelude.{◌≡◌, ◌≤◌, ◌++◌, ◌∷◌, [], ℕ, List}
use Rattle.cal_base.specs.Limits as limits
use Rattle.cal_fields.specs.BigEndian.{big_endian}
use Rattle.cal_fields.specs.Padded.{padded}

-- `CALYPSO1`
abbrev pub mark : List ℕ
mark = 67 ∷ 65 ∷ 76 ∷ 89 ∷ 80 ∷ 83 ∷ 79 ∷ 49 ∷ []

-- the mark, the count of sectors, and the count of clients
abbrev pub head_fields : ℕ → List ℕ
head_fields clients = (mark ++ big_endian 4 limits.sectors) ++ clients ∷ []

-- bytes of the fields of a head
abbrev pub head_size : ℕ
head_size = 13

-- A sector spells a head for so many clients.
pub record SpellsHead (sector : List ℕ) (clients : ℕ) : Type 0 where
  pub some : 1 ≤ clients
  pub few : clients ≤ limits.clients
  pub whole : sector ≡ padded limits.block_size (head_fields clients)
