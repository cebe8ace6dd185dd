-- What one transaction alters of a volume, and the volume then.
use Rattle.std.specs.Prelude.{◌≡◌, ◌⊎◌, ◌==◌, ◌≤◌, ◌<◌, ◌+◌, ◌*◌, ◌/◌, ◌++◌, ℕ, zero, suc, Bool, true, false, List, [], ◌∷◌, length, replicate, slice_get, slice_index_or, slice_set, Option, Some, None, IfSome, IsSome}
use Rattle.cal_base.specs.Limits as limits
use Rattle.directory.specs.Block.{IsEntry, entry_at}
use Rattle.directory.specs.Directory.{IsDirectory}
use Rattle.directory.specs.declared.entry.DirEntry.{DirEntry}
use Rattle.inode.specs.Inode.{IsInode}
use Rattle.inode.specs.declared.inode.Inode.{Inode}
use Rattle.inode.specs.declared.inode.Kind.{Kind}
use Rattle.inode.specs.declared.inode.Kind.TheVariants.{Free, File, Dir}
use Rattle.request_log.specs.Slot.{IsSlot}
use Rattle.request_log.specs.declared.slot.Slot.{Slot}
use Rattle.tree_law.specs.declared.reply.Reply.TheVariants.{Done}
use Rattle.volume.specs.Volume.{Slots, Volume, slots_of}
use Rattle.volume_edit.specs.declared.edit.Edit.{Edit}
use Rattle.volume_edit.specs.declared.edit.Entering.{Entering}
use Rattle.volume_edit.specs.declared.edit.Growth.{Growth}
use Rattle.volume_edit.specs.declared.edit.InodeEdit.{InodeEdit}
use Rattle.volume_edit.specs.declared.edit.Leaving.{Leaving}
use Rattle.volume_edit.specs.declared.edit.SlotEdit.{SlotEdit}

abbrev pub free_inode : Inode
free_inode = record { kind = Free; named = false; size = 0; blocks = replicate limits.file_blocks 0 }

abbrev pub first_slot : Slot
first_slot = record { purged = false; call = 0; flush = 0; reply = Done }

abbrev pub inode_at : List Inode → ℕ → Inode
inode_at inodes number = slice_index_or inodes number free_inode

abbrev pub slot_at : List Slot → ℕ → Slot
slot_at slots client = slice_index_or slots client first_slot

-- the map with the block that a pointer names free, or in use; pointer 0 names none
abbrev pub marked : Bool → List Bool → ℕ → List Bool
marked is_free free zero = free
marked is_free free (suc block) = slice_set free block is_free

-- the same for all of some pointers
unfoldable pub marked_all : Bool → List Bool → List ℕ → List Bool
marked_all is_free free [] = free
marked_all is_free free (pointer ∷ pointers) = marked_all is_free (marked is_free free pointer) pointers

-- an inode's blocks are free, and then those of the inode in its place in use
abbrev pub free_with_inode : List Bool → List Inode → Option InodeEdit → List Bool
free_with_inode free inodes (Some e) = marked_all false (marked_all true free (inode_at inodes e.ino.0).blocks) e.inode.blocks
free_with_inode free inodes None = free

abbrev pub free_with_growth : List Bool → Option Growth → List Bool
free_with_growth free (Some g) = slice_set free g.block false
free_with_growth free None = free

-- a directory's inode with one block more, behind its others
abbrev pub grown_inode : Inode → ℕ → Inode
grown_inode inode block = record { kind = inode.kind; named = inode.named; size = inode.size + limits.block_size; blocks = slice_set inode.blocks (inode.size / limits.block_size) (block + 1) }

abbrev pub with_inode : List Inode → Option InodeEdit → List Inode
with_inode inodes (Some e) = slice_set inodes e.ino.0 e.inode
with_inode inodes None = inodes

abbrev pub with_growth : List Inode → Option Growth → List Inode
with_growth inodes (Some g) = slice_set inodes g.directory.0 (grown_inode (inode_at inodes g.directory.0) g.block)
with_growth inodes None = inodes

abbrev pub with_slot : List Slot → Option SlotEdit → List Slot
with_slot slots (Some e) = slice_set slots e.client.0 e.slot
with_slot slots None = slots

-- something else at a directory
abbrev pub with_slots : List Slots → ℕ → (Slots → Slots) → List Slots
with_slots directories number change = slice_set directories number (change (slice_index_or directories number []))

-- the slots of directories: one with a block more; one without the entry that goes; one with the entry that
-- comes; and without those of a directory that goes
abbrev pub with_grown : List Slots → Option Growth → List Slots
with_grown directories (Some g) = with_slots directories g.directory.0 (λ slots. slots ++ replicate limits.slots_per_block None)
with_grown directories None = directories

abbrev pub with_left : List Slots → Option Leaving → List Slots
with_left directories (Some l) = with_slots directories l.directory.0 (λ slots. slice_set slots l.place None)
with_left directories None = directories

abbrev pub with_entered : List Slots → Option Entering → List Slots
with_entered directories (Some n) = with_slots directories n.directory.0 (λ slots. slice_set slots n.place (Some n.entry))
with_entered directories None = directories

abbrev pub without_slots : List Slots → Option InodeEdit → List Slots
without_slots directories (Some e) = slice_set directories e.ino.0 []
without_slots directories None = directories

-- the slots of a directory before the entry comes
abbrev pub slots_left : Volume → Edit → ℕ → Slots
slots_left v e number = slice_index_or (with_left (with_grown v.directories e.growth) e.leaving) number []

-- the inode of this number is edited
abbrev pub is_edited : Option InodeEdit → ℕ → Bool
is_edited (Some e) number = e.ino.0 == number
is_edited None number = false

-- the volume then
abbrev pub edited : Volume → Edit → Volume
edited v e = record {
  clients = v.clients;
  free = free_with_growth (free_with_inode v.free v.inodes e.inode) e.growth;
  slots = with_slot v.slots e.slot;
  inodes = with_growth (with_inode v.inodes e.inode) e.growth;
  directories = without_slots (with_entered (with_left (with_grown v.directories e.growth) e.leaving) e.entering) e.inode;
}

-- what an inode of each kind has of slots: a directory those of its blocks, and no other any
pub record IsSized (inode : Inode) (slots : Slots) : Type 0 where
  pub directory : IsDirectory slots
  pub count : limits.block_size * length slots ≡ limits.slots_per_block * inode.size

abbrev pub HasSlots : Kind → Inode → Slots → Type 0
HasSlots Free inode slots = slots ≡ []
HasSlots File inode slots = slots ≡ []
HasSlots Dir inode slots = IsSized inode slots

-- a volume within its grammar
pub record IsVolume (v : Volume) : Type 0 where
  pub some : 1 ≤ v.clients
  pub few : v.clients ≤ limits.clients
  pub map : length v.free ≡ limits.blocks
  pub slot_count : length v.slots ≡ limits.clients
  pub slots : (client : ℕ) (slot : Slot) → slice_get v.slots client ≡ Some slot → IsSlot slot
  pub inode_count : length v.inodes ≡ limits.inodes
  pub inodes : (number : ℕ) (inode : Inode) → slice_get v.inodes number ≡ Some inode → IsInode inode
  pub directory_count : length v.directories ≡ limits.inodes
  pub directories : (number : ℕ) (inode : Inode) → slice_get v.inodes number ≡ Some inode → HasSlots inode.kind inode (slots_of v number)
  pub root : (inode_at v.inodes 0).kind ≡ Dir

pub record IsSlotEdit (e : SlotEdit) : Type 0 where
  pub client : e.client.0 < limits.clients
  pub slot : IsSlot e.slot

-- an inode other than the root, and without entries
pub record IsInodeEdit (e : InodeEdit) : Type 0 where
  pub from_one : 1 ≤ e.ino.0
  pub to_511 : e.ino.0 < limits.inodes
  pub inode : IsInode e.inode
  pub empty : HasSlots e.inode.kind e.inode []

-- a directory that stays one
pub record IsStaying (v : Volume) (e : Edit) (directory : ℕ) : Type 0 where
  pub to_511 : directory < limits.inodes
  pub kind : (inode_at v.inodes directory).kind ≡ Dir
  pub stays : is_edited e.inode directory ≡ false

-- an entry stands in the block that a directory gets
pub record IsBehind (v : Volume) (g : Growth) (n : Entering) : Type 0 where
  pub directory : n.directory.0 ≡ g.directory.0
  pub place : length (slots_of v g.directory.0) ≤ n.place

abbrev pub IsFilled : Volume → Growth → Option Entering → Type 0
IsFilled v g (Some n) = IsBehind v g n
IsFilled v g None = ⊥

-- a block comes with an entry in it
pub record IsGrowth (v : Volume) (e : Edit) (g : Growth) : Type 0 where
  pub directory : IsStaying v e g.directory.0
  pub fewer : length (slots_of v g.directory.0) < limits.directory_entries
  pub block : g.block < limits.blocks
  pub filled : IsFilled v g e.entering

pub record IsLeaving (v : Volume) (e : Edit) (l : Leaving) : Type 0 where
  pub directory : IsStaying v e l.directory.0
  pub within : l.place < length (slots_of v l.directory.0)

-- the entry's name stands nowhere else in the directory
pub record IsEntering (v : Volume) (e : Edit) (n : Entering) : Type 0 where
  pub directory : IsStaying v e n.directory.0
  pub within : n.place < length (slots_left v e n.directory.0)
  pub entry : IsEntry n.entry
  pub alone : (place : ℕ) (other : DirEntry) → entry_at (slots_left v e n.directory.0) place ≡ Some other → other.name ≡ n.entry.name → place ≡ n.place

-- an edit that keeps a volume within its grammar; a slot or an inode is part of each
pub record IsEdit (v : Volume) (e : Edit) : Type 0 where
  pub some : IsSome e.slot ⊎ IsSome e.inode
  pub slot : IfSome e.slot IsSlotEdit
  pub inode : IfSome e.inode IsInodeEdit
  pub growth : IfSome e.growth (IsGrowth v e)
  pub leaving : IfSome e.leaving (IsLeaving v e)
  pub entering : IfSome e.entering (IsEntering v e)
