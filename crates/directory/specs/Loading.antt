-- How a directory takes the slots of a sector, one by one.
use Rattle.std.specs.Prelude.{◌≡◌, ◌++◌, ◌∷◌, [], ℕ, List, length, Option}
use Rattle.directory.specs.declared.entry.DirEntry.{DirEntry}
use Rattle.directory.specs.Block.{AreEntries, IsSlot, slot_bytes, slots_bytes}

-- the slot that these bytes spell was put at the end
pub record Takes (old : List (Option DirEntry)) (bytes : List ℕ) (new : List (Option DirEntry)) : Type 0 where
  pub slot : Option DirEntry
  pub is : IsSlot slot
  pub spelled : bytes ≡ slot_bytes slot
  pub put : new ≡ old ++ slot ∷ []

-- so many slots of a sector were put at the end, and these bytes of it are left
pub record Loaded (old : List (Option DirEntry)) (sector : List ℕ) (count : ℕ) (left : List ℕ) (now : List (Option DirEntry)) : Type 0 where
  pub slots : List (Option DirEntry)
  pub size : length slots ≡ count
  pub entries : AreEntries slots
  pub bytes : sector ≡ slots_bytes slots ++ left
  pub whole : now ≡ old ++ slots
