-- How the homes of an edit are put one behind the other.
use Rattle.std.specs.Prelude.{◌+◌, ◌≡◌, ◌≤◌, ◌<◌, ◌*◌, ◌/◌, ◌++◌, ◌==◌, ℕ, Bool, false, List, Option, Some, None, length, ⊤, if◌then◌else◌}
use Rattle.cal_base.specs.Limits as limits
use Rattle.directory.specs.declared.entry.DirEntry.{DirEntry}
use Rattle.image.specs.declared.home.Home.{Home}
use Rattle.image.specs.declared.home.Home.TheVariants.{Inode as InodeHome, Block as BlockHome}
use Rattle.inode.specs.declared.inode.Inode.{Inode}
use Rattle.volume.specs.Volume.{Volume, slots_of}
use Rattle.volume_edit.specs.Edit.{edited, grown_inode, is_edited}
use Rattle.volume_edit.specs.Homes.{BlockPart, InodePart, Part, Spell}
use Rattle.volume_edit.specs.declared.edit.Edit.{Edit}
use Rattle.volume_edit.specs.declared.edit.Entering.{Entering}
use Rattle.volume_edit.specs.declared.edit.Growth.{Growth}
use Rattle.volume_edit.specs.declared.edit.InodeEdit.{InodeEdit}
use Rattle.volume_edit.specs.declared.edit.Leaving.{Leaving}

-- homes that spell parts come behind others
pub record Adds (v : Volume) (parts : List Part) (old new : List (ℕ × List ℕ)) : Type 0 where
  pub homes : List (ℕ × List ℕ)
  pub put : new ≡ old ++ homes
  pub spell : Spell v parts homes

-- the part that stands in a home
abbrev pub part_of : Home → Part
part_of (InodeHome ino) = InodePart ino.0
part_of (BlockHome ino index) = BlockPart ino.0 index

-- an inode, or a block that is there of a directory which stays one
pub record IsBlockThen (v : Volume) (e : Edit) (number index : ℕ) : Type 0 where
  pub to_511 : number < limits.inodes
  pub stays : is_edited e.inode number ≡ false
  pub few : index < limits.directory_blocks
  pub there : limits.slots_per_block * index < length (slots_of (edited v e) number)

abbrev pub IsHome : Volume → Edit → Home → Type 0
IsHome v e (InodeHome ino) = ino.0 < limits.inodes
IsHome v e (BlockHome ino index) = IsBlockThen v e ino.0 index

-- the homes of the parts of an edit
abbrev pub inode_home : Option InodeEdit → Option Home
inode_home (Some e) = Some (InodeHome e.ino)
inode_home None = None

abbrev pub growth_home : Option Growth → Option Home
growth_home (Some g) = Some (InodeHome g.directory)
growth_home None = None

abbrev pub leaving_home : Option Leaving → Option Home
leaving_home (Some l) = Some (BlockHome l.directory (l.place / limits.slots_per_block))
leaving_home None = None

abbrev pub entering_home : Option Entering → Option Home
entering_home (Some n) = Some (BlockHome n.directory (n.place / limits.slots_per_block))
entering_home None = None

-- what an edit changes of the slots of one directory
abbrev pub grows_of : Option Growth → ℕ → Bool
grows_of (Some g) number = g.directory.0 == number
grows_of None number = false

abbrev pub leaving_at : Option Leaving → ℕ → Option ℕ
leaving_at (Some l) number = if l.directory.0 == number then Some l.place else None
leaving_at None number = None

abbrev pub entering_at : Option Entering → ℕ → Option (ℕ × DirEntry)
entering_at (Some n) number = if n.directory.0 == number then Some (n.place, n.entry) else None
entering_at None number = None

-- the inode of a number, put and then grown
abbrev pub put_at : Option InodeEdit → ℕ → Inode → Inode
put_at (Some e) number inode = if e.ino.0 == number then e.inode else inode
put_at None number inode = inode

abbrev pub grown_at : Option Growth → ℕ → Inode → Inode
grown_at (Some g) number inode = if g.directory.0 == number then grown_inode inode g.block else inode
grown_at None number inode = inode

-- an inode has room for a block more, where it grows
abbrev pub CanGrowAt : Option Growth → ℕ → Inode → Type 0
CanGrowAt (Some g) number inode = (g.directory.0 ≡ number) → (inode.size + limits.block_size ≤ limits.directory_size) × (g.block < limits.blocks)
CanGrowAt None number inode = ⊤
