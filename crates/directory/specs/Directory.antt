-- A directory: the slots of its blocks in order, as a finite map from names to inodes, with places.
use Rattle.std.specs.Prelude.{◌≡◌, ◌≢◌, ◌==◌, ◌≤◌, ◌<◌, ◌*◌, ◌+◌, ◌%◌, ◌++◌, ◌∷◌, [], ℕ, suc, List, length, Option, None, Some, replicate, slice_set, slice_range, if◌then◌else◌}
use Rattle.cal_base.specs.Limits.{directory_entries, slots_per_block}
use Rattle.cal_base.specs.declared.identity.Ino.{Ino}
use Rattle.directory.specs.declared.entry.DirEntry.{DirEntry}
use Rattle.directory.specs.Block.{AreEntries, SpellsBlock, entry_at}

-- no name stands in two slots
abbrev pub AreDistinct : List (Option DirEntry) → Type 0
AreDistinct slots = (i j : ℕ) (a b : DirEntry) → entry_at slots i ≡ Some a → entry_at slots j ≡ Some b → a.name ≡ b.name → i ≡ j

-- what a directory may be: whole blocks, no more than it may have, entries in their slots, and no name twice
pub record IsDirectory (slots : List (Option DirEntry)) : Type 0 where
  pub whole : length slots % slots_per_block ≡ 0
  pub few : length slots ≤ directory_entries
  pub entries : AreEntries slots
  pub distinct : AreDistinct slots

-- a name stands at a place
pub record StandsAt (slots : List (Option DirEntry)) (name : List ℕ) (place : ℕ) : Type 0 where
  pub entry : DirEntry
  pub there : entry_at slots place ≡ Some entry
  pub named : entry.name ≡ name

-- a name stands for something
pub record HasName (slots : List (Option DirEntry)) (name : List ℕ) : Type 0 where
  pub place : ℕ
  pub at : StandsAt slots name place

-- the name of a slot stands in another one already
pub record Repeats (slots : List (Option DirEntry)) (slot : Option DirEntry) : Type 0 where
  pub entry : DirEntry
  pub is : slot ≡ Some entry
  pub stands : HasName slots entry.name

-- the inode of a slot
abbrev pub ino_of : Option DirEntry → Option Ino
ino_of None = None
ino_of (Some e) = Some e.ino

-- a slot for another inode
abbrev pub with_ino : Ino → Option DirEntry → Option DirEntry
with_ino ino None = None
with_ino ino (Some e) = Some (record e { ino = ino })

-- a name stands, for an inode
pub record Names (slots : List (Option DirEntry)) (name : List ℕ) (ino : ℕ) : Type 0 where
  pub place : ℕ
  pub there : entry_at slots place ≡ Some (record { name = name; ino = record { 0 = ino } })

-- a name doesn't stand
abbrev pub IsAbsent : List (Option DirEntry) → List ℕ → Type 0
IsAbsent slots name = (place : ℕ) (e : DirEntry) → entry_at slots place ≡ Some e → e.name ≢ name

-- a name stands nowhere but maybe at this place
abbrev pub IsAlone : List (Option DirEntry) → List ℕ → ℕ → Type 0
IsAlone slots name place = (at : ℕ) (e : DirEntry) → entry_at slots at ≡ Some e → e.name ≡ name → at ≡ place

-- how many slots have an entry
unfoldable pub entry_count : List (Option DirEntry) → ℕ
entry_count [] = 0
entry_count (None ∷ slots) = entry_count slots
entry_count (Some e ∷ slots) = suc (entry_count slots)

-- the place of the first empty slot; the count of slots where none is empty
unfoldable pub first_empty : List (Option DirEntry) → ℕ
first_empty [] = 0
first_empty (None ∷ slots) = 0
first_empty (Some e ∷ slots) = suc (first_empty slots)

-- the slots with one block more where no slot is empty
unfoldable pub with_room : List (Option DirEntry) → List (Option DirEntry)
with_room slots = if first_empty slots == length slots then slots ++ replicate slots_per_block None else slots

-- the slots with one entry more, in the first empty one
unfoldable pub inserted : List (Option DirEntry) → DirEntry → List (Option DirEntry)
inserted slots e = slice_set (with_room slots) (first_empty slots) (Some e)

-- the next insertion adds a block: no slot is empty, and there are fewer than a directory may have
pub record Grows (slots : List (Option DirEntry)) : Type 0 where
  pub none : first_empty slots ≡ length slots
  pub fewer : length slots < directory_entries

-- the slots of one block
abbrev pub block_slots : List (Option DirEntry) → ℕ → List (Option DirEntry)
block_slots slots block = slice_range slots (slots_per_block * block) (slots_per_block * block + slots_per_block)

-- a sector that spells the next block of a directory
pub record Continues (old : List (Option DirEntry)) (sector : List ℕ) (new : List (Option DirEntry)) : Type 0 where
  pub slots : List (Option DirEntry)
  pub spelled : SpellsBlock sector slots
  pub whole : new ≡ old ++ slots
  pub distinct : AreDistinct new

-- one name's inode is another, and nothing else changed
pub record Replaces (old : List (Option DirEntry)) (name : List ℕ) (ino : ℕ) (new : List (Option DirEntry)) : Type 0 where
  pub place : ℕ
  pub stood : StandsAt old name place
  pub changed : new ≡ slice_set old place (Some (record { name = name; ino = record { 0 = ino } }))

-- one name's slot is empty, and nothing else changed
pub record Removes (old : List (Option DirEntry)) (name : List ℕ) (ino : ℕ) (new : List (Option DirEntry)) : Type 0 where
  pub place : ℕ
  pub stood : entry_at old place ≡ Some (record { name = name; ino = record { 0 = ino } })
  pub emptied : new ≡ slice_set old place None
