-- One block of a directory: slots of one size.
use Rattle.std.specs.Prelude.{◌≡◌, ◌≤◌, ◌++◌, ◌∷◌, [], ℕ, List, length, Option, None, Some, slice_index_or}
use Rattle.std.specs.List.{flat_map}
use Rattle.cal_base.specs.Limits.{last_inode, slot_size, slots_per_block}
use Rattle.tree_law.specs.Path.{IsName}
use Rattle.cal_fields.specs.BigEndian.{big_endian}
use Rattle.cal_fields.specs.Padded.{padded, zeros}
use Rattle.directory.specs.declared.entry.DirEntry.{DirEntry}

-- an entry: a name, and an inode of the volume other than the root
pub record IsEntry (e : DirEntry) : Type 0 where
  pub name : IsName e.name
  pub from_one : 1 ≤ e.ino.0
  pub to_511 : e.ino.0 ≤ last_inode

-- how an entry is written: its inode, the length of its name, its name
abbrev pub entry_bytes : DirEntry → List ℕ
entry_bytes e = (big_endian 4 e.ino.0 ++ length e.name ∷ []) ++ e.name

-- how a slot is written: an entry with zeros behind it, or zeros alone
abbrev pub slot_bytes : Option DirEntry → List ℕ
slot_bytes None = zeros slot_size
slot_bytes (Some e) = padded slot_size (entry_bytes e)

-- what a slot may be: empty, or an entry
abbrev pub IsSlot : Option DirEntry → Type 0
IsSlot None = Unit {0}
IsSlot (Some e) = IsEntry e

-- the entry at a place; none where the slot is empty, and none past the last slot
abbrev pub entry_at : List (Option DirEntry) → ℕ → Option DirEntry
entry_at slots place = slice_index_or slots place None

-- what stands in the slots is an entry
abbrev pub AreEntries : List (Option DirEntry) → Type 0
AreEntries slots = (place : ℕ) (e : DirEntry) → entry_at slots place ≡ Some e → IsEntry e

-- the slots of many blocks, one behind the other
unfoldable pub slots_bytes : List (Option DirEntry) → List ℕ
slots_bytes slots = flat_map slot_bytes slots

-- A sector spells the slots of a block.
pub record SpellsBlock (sector : List ℕ) (slots : List (Option DirEntry)) : Type 0 where
  pub count : length slots ≡ slots_per_block
  pub entries : AreEntries slots
  pub whole : sector ≡ slots_bytes slots
