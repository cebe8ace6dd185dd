use Rattle.std.specs.Prelude.{ℕ, ◌+◌, ◌≤◌, IsTrue, Bool, true, ◌&&◌, ◌||◌, nat_eq, nat_le, nat_lt, List, [], ◌∷◌, length}
use Rattle.cal_base.specs.Limits as limits
use Rattle.shared_disk.specs.Map.{at_head, at_map}

-- a home is a sector that a transaction may write: the head, the block map, a slot, an inode or a data block
abbrev pub is_home : ℕ → Bool
is_home sector = nat_eq sector at_head || (nat_le at_map sector && nat_lt sector limits.sectors)

-- these sectors are homes, each above the one before and none below `least`
abbrev pub are_ascending : ℕ → List ℕ → Bool
are_ascending least [] = true
are_ascending least (home ∷ homes) = nat_le least home && is_home home && are_ascending (home + 1) homes

-- the sectors of a list of writes
abbrev pub sectors_of : List (ℕ × List ℕ) → List ℕ
sectors_of [] = []
sectors_of (w ∷ ws) = w.0 ∷ sectors_of ws

-- a transaction: 1 to 16 homes with their contents, ascending
pub record IsTransaction (homes : List (ℕ × List ℕ)) : Type 0 where
  pub some : 1 ≤ length homes
  pub few : length homes ≤ limits.transaction_homes
  pub ascending : IsTrue (are_ascending 0 (sectors_of homes))
