-- The index of a directory: the places of its entries, by name.
use Rattle.std.specs.Prelude.{◌≡◌, ◌≢◌, ◌≤◌, ◌<◌, ℕ, [], List, length, Option, None, Some, slice_index}
use Rattle.cal_base.specs.Limits.{directory_entries}
use Rattle.tree_law.specs.Entries.{IsBefore}
use Rattle.directory.specs.declared.entry.DirEntry.{DirEntry}
use Rattle.directory.specs.Block.{entry_at}
use Rattle.directory.specs.Directory.{entry_count}

abbrev pub name_of : Option DirEntry → List ℕ
name_of None = []
name_of (Some e) = e.name

-- the name at a place
abbrev pub name_at : List (Option DirEntry) → ℕ → List ℕ
name_at slots place = name_of (entry_at slots place)

-- an entry stands at a place
abbrev pub IsTaken : List (Option DirEntry) → ℕ → Type 0
IsTaken slots place = entry_at slots place ≢ None

-- an index lists a place
pub record Lists (index : List ℕ) (place : ℕ) : Type 0 where
  pub at : ℕ
  pub within : at < length index
  pub is : slice_index index at ≡ place

-- the places of all entries, in the order of their names
pub record IsIndex (slots : List (Option DirEntry)) (index : List ℕ) : Type 0 where
  pub taken : (at : ℕ) → at < length index → IsTaken slots (slice_index index at)
  pub sorted : (i j : ℕ) → i < j → j < length index → IsBefore (name_at slots (slice_index index i)) (name_at slots (slice_index index j))
  pub whole : (place : ℕ) → IsTaken slots place → Lists index place
  pub count : length index ≡ entry_count slots

-- an index has a name at a place of its own
pub record IsFound (slots : List (Option DirEntry)) (index name : List ℕ) (at : ℕ) : Type 0 where
  pub within : at < length index
  pub named : name_at slots (slice_index index at) ≡ name

-- a name would go at a place of the index: lesser names before it, and greater ones from it on
pub record IsGap (slots : List (Option DirEntry)) (index name : List ℕ) (at : ℕ) : Type 0 where
  pub within : at ≤ length index
  pub before : (i : ℕ) → i < at → IsBefore (name_at slots (slice_index index i)) name
  pub after : (i : ℕ) → at ≤ i → i < length index → IsBefore name (name_at slots (slice_index index i))

-- no slot below the hint is empty
abbrev pub IsHint : List (Option DirEntry) → ℕ → Type 0
IsHint slots hint = (place : ℕ) → place < hint → IsTaken slots place

-- slots with their index and a hint
pub record IsTable (slots : List (Option DirEntry)) (places : List ℕ) (from : ℕ) : Type 0 where
  pub index : IsIndex slots places
  pub hint : IsHint slots from
  pub few : length slots ≤ directory_entries
