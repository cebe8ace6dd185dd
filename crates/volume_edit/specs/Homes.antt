-- The homes of a transaction: the parts of the volume that an edit alters, spelled as they are then.
use Rattle.std.specs.Prelude.{◌≡◌, ◌==◌, ◌/◌, ◌||◌, ◌++◌, ℕ, Bool, false, not, List, [], ◌∷◌, slice_index, Option, Some, None, is_some, nat_eq, nat_lt, option_map, if◌then◌else◌, ⊤}
use Rattle.cal_base.specs.Limits as limits
use Rattle.shared_disk.specs.Map.{at_map, at_slot, at_inode, at_pointer}
use Rattle.std.specs.Cmp.Lexicographic.{pointwise}
use Rattle.directory.specs.Block.{SpellsBlock}
use Rattle.directory.specs.Directory.{block_slots}
use Rattle.inode.specs.Inode.{SpellsInode}
use Rattle.inode.specs.declared.inode.Inode.{Inode}
use Rattle.request_log.specs.Slot.{SpellsSlot}
use Rattle.space_map.specs.SpaceMap.{SpellsMap}
use Rattle.volume_edit.specs.Edit.{edited, inode_at, slot_at}
use Rattle.volume.specs.Volume.{Volume, slots_of}
use Rattle.volume_edit.specs.declared.edit.Edit.{Edit}
use Rattle.volume_edit.specs.declared.edit.Entering.{Entering}
use Rattle.volume_edit.specs.declared.edit.Growth.{Growth}
use Rattle.volume_edit.specs.declared.edit.InodeEdit.{InodeEdit}
use Rattle.volume_edit.specs.declared.edit.Leaving.{Leaving}
use Rattle.volume_edit.specs.declared.edit.SlotEdit.{SlotEdit}

-- the map, a client's slot, an inode, or a block of a directory by its index
pub data Part : Type 0 where
  MapPart : Part
  SlotPart : (client : ℕ) → Part
  InodePart : (number : ℕ) → Part
  BlockPart : (number : ℕ) → (index : ℕ) → Part

-- the sector in which a part stands
abbrev pub sector_of : Volume → Part → ℕ
sector_of v MapPart = at_map
sector_of v (SlotPart client) = at_slot client
sector_of v (InodePart number) = at_inode number
sector_of v (BlockPart number index) = at_pointer (slice_index (inode_at v.inodes number).blocks index)

-- bytes spell a part
abbrev pub SpellsPart : Volume → Part → List ℕ → Type 0
SpellsPart v MapPart bytes = SpellsMap bytes v.free
SpellsPart v (SlotPart client) bytes = SpellsSlot bytes (slot_at v.slots client)
SpellsPart v (InodePart number) bytes = SpellsInode bytes (inode_at v.inodes number)
SpellsPart v (BlockPart number index) bytes = SpellsBlock bytes (block_slots (slots_of v number) index)

-- two parts in the order of their sectors, a part that is both once
abbrev pub in_order : Volume → Option Part → Option Part → List Part
in_order v None None = []
in_order v (Some a) None = a ∷ []
in_order v None (Some b) = b ∷ []
in_order v (Some a) (Some b) =
    if sector_of v a == sector_of v b then a ∷ []
    else (if nat_lt (sector_of v a) (sector_of v b) then a ∷ b ∷ [] else b ∷ a ∷ [])

-- an inode has other blocks than the one in its place before
abbrev pub has_other_blocks : List Inode → Option InodeEdit → Bool
has_other_blocks inodes (Some e) = not (pointwise nat_eq (inode_at inodes e.ino.0).blocks e.inode.blocks)
has_other_blocks inodes None = false

-- the map, where blocks are freed or taken
abbrev pub map_parts : Volume → Edit → List Part
map_parts v e = if has_other_blocks v.inodes e.inode || is_some e.growth then MapPart ∷ [] else []

abbrev pub slot_parts : Option SlotEdit → List Part
slot_parts (Some e) = SlotPart e.client.0 ∷ []
slot_parts None = []

abbrev pub inode_part : InodeEdit → Part
inode_part e = InodePart e.ino.0

abbrev pub growth_part : Growth → Part
growth_part g = InodePart g.directory.0

abbrev pub leaving_part : Leaving → Part
leaving_part l = BlockPart l.directory.0 (l.place / limits.slots_per_block)

abbrev pub entering_part : Entering → Part
entering_part n = BlockPart n.directory.0 (n.place / limits.slots_per_block)

abbrev pub inode_parts : Volume → Edit → List Part
inode_parts v e = in_order v (option_map inode_part e.inode) (option_map growth_part e.growth)

abbrev pub block_parts : Volume → Edit → List Part
block_parts v e = in_order (edited v e) (option_map leaving_part e.leaving) (option_map entering_part e.entering)

-- the parts that an edit alters, in the order of their sectors
abbrev pub parts : Volume → Edit → List Part
parts v e = map_parts v e ++ (slot_parts e.slot ++ (inode_parts v e ++ block_parts v e))

-- each home is the sector of a part, with bytes that spell it
abbrev pub Spell : Volume → List Part → List (ℕ × List ℕ) → Type 0
Spell v [] [] = ⊤
Spell v [] (home ∷ homes) = ⊥
Spell v (part ∷ parts) [] = ⊥
Spell v (part ∷ parts) (home ∷ homes) = ((home.0 ≡ sector_of v part) × SpellsPart v part home.1) × Spell v parts homes

-- homes are those of an edit
pub record AreHomes (v : Volume) (e : Edit) (homes : List (ℕ × List ℕ)) : Type 0 where
  pub spell : Spell (edited v e) (parts v e) homes
