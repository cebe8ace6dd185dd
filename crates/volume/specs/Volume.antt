-- What the sectors of a volume spell. All of it is said of sectors that were replayed, so that no
-- transaction is under way.
use Rattle.std.specs.Prelude.{◌≡◌, ◌*◌, ◌/◌, ◌%◌, ◌<◌, ◌==◌, ℕ, Bool, List, [], length, slice_get, slice_index, slice_index_or, Option, Some, if◌then◌else◌}
use Rattle.cal_base.specs.Limits as limits
use Rattle.shared_disk.specs.Map.{at_head, at_inode, at_map, at_pointer, at_slot}
use Rattle.directory.specs.Block.{SpellsBlock}
use Rattle.directory.specs.Directory.{IsDirectory, block_slots}
use Rattle.directory.specs.declared.entry.DirEntry.{DirEntry}
use Rattle.inode.specs.Inode.{SpellsInode}
use Rattle.inode.specs.declared.inode.Inode.{Inode}
use Rattle.inode.specs.declared.inode.Kind.TheVariants.{Dir}
use Rattle.journal.specs.Layout.{sector}
use Rattle.request_log.specs.Slot.{SpellsSlot}
use Rattle.request_log.specs.declared.slot.Slot.{Slot}
use Rattle.space_map.specs.SpaceMap.{SpellsMap}
use Rattle.volume.specs.Head.{SpellsHead}

-- the slots of a directory, over all its blocks
abbrev pub Slots : Type 0
Slots = List (Option DirEntry)

-- the count of clients; for each data block whether it is free; the slots of all clients; the inodes; and
-- for each inode the slots of its blocks, if it is a directory
pub record Volume : Type 0 where
  pub clients : ℕ
  pub free : List Bool
  pub slots : List Slot
  pub inodes : List Inode
  pub directories : List Slots

abbrev pub slots_of : Volume → ℕ → Slots
slots_of v number = slice_index_or v.directories number []

-- the sector at which a pointer points
abbrev pub pointed : List (List ℕ) → ℕ → List ℕ
pointed sectors pointer = sector sectors (at_pointer pointer)

-- a byte of a file, by its pointers: 0 in a hole
abbrev pub byte_behind : List (List ℕ) → ℕ → ℕ → ℕ
byte_behind sectors pointer i = if pointer == 0 then 0 else slice_index (pointed sectors pointer) (i % limits.block_size)

abbrev pub file_byte : List (List ℕ) → Inode → ℕ → ℕ
file_byte sectors inode i = byte_behind sectors (slice_index inode.blocks (i / limits.block_size)) i

-- a directory's slots are those of its blocks, in order
pub record SpellsDirectory (sectors : List (List ℕ)) (inode : Inode) (slots : Slots) : Type 0 where
  pub directory : IsDirectory slots
  pub count : limits.block_size * length slots ≡ limits.slots_per_block * inode.size
  pub blocks : (block : ℕ) → limits.slots_per_block * block < length slots → SpellsBlock (pointed sectors (slice_index inode.blocks block)) (block_slots slots block)

-- The sectors spell a volume: the head, the map, the slots, the inodes and the blocks of directories are in
-- their grammar. Inode 0 is the root, a directory.
pub record SpellsVolume (sectors : List (List ℕ)) (v : Volume) : Type 0 where
  pub head : SpellsHead (sector sectors at_head) v.clients
  pub map : SpellsMap (sector sectors at_map) v.free
  pub slot_count : length v.slots ≡ limits.clients
  pub slots : (client : ℕ) (slot : Slot) → slice_get v.slots client ≡ Some slot → SpellsSlot (sector sectors (at_slot client)) slot
  pub inode_count : length v.inodes ≡ limits.inodes
  pub inodes : (number : ℕ) (inode : Inode) → slice_get v.inodes number ≡ Some inode → SpellsInode (sector sectors (at_inode number)) inode
  pub directories : (number : ℕ) (inode : Inode) → slice_get v.inodes number ≡ Some inode → inode.kind ≡ Dir → SpellsDirectory sectors inode (slots_of v number)
  pub root : (inode : Inode) → slice_get v.inodes 0 ≡ Some inode → inode.kind ≡ Dir

-- two volumes are the same in all that sectors spell
pub record AreSame (a b : Volume) : Type 0 where
  pub clients : a.clients ≡ b.clients
  pub free : a.free ≡ b.free
  pub slots : a.slots ≡ b.slots
  pub inodes : a.inodes ≡ b.inodes
  pub directories : (number : ℕ) (inode : Inode) → slice_get a.inodes number ≡ Some inode → inode.kind ≡ Dir → slots_of a number ≡ slots_of b number
