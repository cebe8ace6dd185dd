-- When the parts of an edit can be made, one after the other.
use Rattle.std.specs.Prelude.{◌+◌, ◌≡◌, ◌<◌, ◌≤◌, ℕ, List, [], length, slice_index_or, IfSome}
use Rattle.cal_base.specs.Limits as limits
use Rattle.change_reply.specs.ReplyBytes.{IsChangeReply}
use Rattle.directory.specs.Block.{IsEntry}
use Rattle.directory.specs.Directory.{IsAlone}
use Rattle.inode.specs.Inode.{AreSmall}
use Rattle.inode.specs.declared.inode.Inode.{Inode}
use Rattle.request_log.specs.declared.slot.Slot.{Slot}
use Rattle.volume.specs.Volume.{Slots}
use Rattle.volume_edit.specs.Edit.{inode_at, with_entered, with_grown, with_inode, with_left}
use Rattle.volume_edit.specs.declared.edit.Edit.{Edit}
use Rattle.volume_edit.specs.declared.edit.Entering.{Entering}
use Rattle.volume_edit.specs.declared.edit.Growth.{Growth}
use Rattle.volume_edit.specs.declared.edit.InodeEdit.{InodeEdit}
use Rattle.volume_edit.specs.declared.edit.Leaving.{Leaving}
use Rattle.volume_edit.specs.declared.edit.SlotEdit.{SlotEdit}

abbrev pub slots_at : List Slots → ℕ → Slots
slots_at directories number = slice_index_or directories number []

-- a directory has room for a block
pub record CanGrow (directories : List Slots) (g : Growth) : Type 0 where
  pub within : g.directory.0 < length directories
  pub fewer : length (slots_at directories g.directory.0) < limits.directory_entries

-- a directory has the place of the entry that goes
pub record CanLeave (directories : List Slots) (l : Leaving) : Type 0 where
  pub within : l.directory.0 < length directories
  pub place : l.place < length (slots_at directories l.directory.0)

-- a directory has the place of the entry that comes, and no other slot its name
pub record CanEnter (directories : List Slots) (n : Entering) : Type 0 where
  pub within : n.directory.0 < length directories
  pub place : n.place < length (slots_at directories n.directory.0)
  pub entry : IsEntry n.entry
  pub alone : IsAlone (slots_at directories n.directory.0) n.entry.name n.place

abbrev pub IsWithin : List Slots → InodeEdit → Type 0
IsWithin directories e = e.ino.0 < length directories

-- what an edit changes of the slots of directories can be made
pub record CanChange (directories : List Slots) (e : Edit) : Type 0 where
  pub growth : IfSome e.growth (CanGrow directories)
  pub leaving : IfSome e.leaving (CanLeave (with_grown directories e.growth))
  pub entering : IfSome e.entering (CanEnter (with_left (with_grown directories e.growth) e.leaving))
  pub inode : IfSome e.inode (IsWithin (with_entered (with_left (with_grown directories e.growth) e.leaving) e.entering))

-- an inode can be put in place of another, and the blocks of both marked
pub record CanPut (inodes : List Inode) (e : InodeEdit) : Type 0 where
  pub within : e.ino.0 < length inodes
  pub freed : AreSmall (inode_at inodes e.ino.0).blocks
  pub used : AreSmall e.inode.blocks

pub record CanMark (inodes : List Inode) (e : Edit) : Type 0 where
  pub inode : IfSome e.inode (CanPut inodes)
  pub growth : IfSome e.growth (λ (g : Growth). g.block < limits.blocks)

-- a directory's inode can get a block more
pub record CanGrowInode (inodes : List Inode) (g : Growth) : Type 0 where
  pub within : g.directory.0 < length inodes
  pub size : (inode_at inodes g.directory.0).size + limits.block_size ≤ limits.directory_size
  pub count : length (inode_at inodes g.directory.0).blocks ≡ limits.file_blocks
  pub block : g.block < limits.blocks

pub record CanChangeInodes (inodes : List Inode) (e : Edit) : Type 0 where
  pub inode : IfSome e.inode (λ (i : InodeEdit). i.ino.0 < length inodes)
  pub growth : IfSome e.growth (CanGrowInode (with_inode inodes e.inode))

-- a client's slot can be put in place of another
pub record CanPutSlot (slots : List Slot) (e : SlotEdit) : Type 0 where
  pub within : e.client.0 < length slots
  pub reply : IsChangeReply e.slot.reply
