-- What a mount reads of the sectors, and how it may end.
use Rattle.std.specs.Prelude.{◌≡◌, ◌≢◌, ◌≤◌, ◌<◌, ℕ, Bool, List, length, slice_get, Some, Result, Ok, Err}
use Rattle.cal_base.specs.Limits as limits
use Rattle.shared_disk.specs.Map.{at_head, at_map, at_slot, at_inode}
use Rattle.cal_base.specs.Faults.{Rose}
use Rattle.inode.specs.Inode.{IsInode, SpellsInode}
use Rattle.inode.specs.declared.inode.Inode.{Inode}
use Rattle.journal.specs.Layout.{sector}
use Rattle.request_log.specs.Slot.{IsSlot, SpellsSlot}
use Rattle.request_log.specs.declared.slot.Slot.{Slot}
use Rattle.shared_disk.specs.Disk.{Disk, MeetsOther}
use Rattle.shared_disk.specs.declared.disk_refusal.DiskRefusal.{DiskRefusal}
use Rattle.shared_disk.specs.declared.disk_refusal.DiskRefusal.TheVariants.{Fenced as Refenced, Failed as Refailed}
use Rattle.space_map.specs.SpaceMap.{SpellsMap}
use Rattle.volume.specs.Head.{SpellsHead}
use Rattle.volume.specs.Volume.{Slots}
use Rattle.volume_edit.specs.Edit.{HasSlots}
use Rattle.image.specs.Damage.{IsNodeRead, IsRootDir}
use Rattle.image.specs.declared.mount_halt.MountHalt.{MountHalt}
use Rattle.image.specs.declared.mount_halt.MountHalt.TheVariants.{Fenced, Failed, Damaged}

-- a disk's refusal as a mount's halt
abbrev pub refused : DiskRefusal → MountHalt
refused (Refenced mine current) = Fenced mine current
refused Refailed = Failed

-- something holds of the sectors of a disk, where they are told
abbrev pub Told : Disk → (List (List ℕ) → Type 0) → Type 0
Told disk Holds = (sectors : List (List ℕ)) → disk.sectors ≡ Some sectors → Holds sectors

-- how a call ended that only reads under this view: it is refused exactly where the key is another, it fails
-- only where the count of faults rose, and it finds damage only where there is some
abbrev pub ReadEnds : (List (List ℕ) → ℕ → Type 0) → Disk → ℕ → ℕ → Result (Unit {0}) MountHalt → ℕ → Type 0
ReadEnds Bad disk view faults (Ok done) faults' = disk.key ≡ view
ReadEnds Bad disk view faults (Err (Fenced mine current)) faults' = MeetsOther disk view mine current
ReadEnds Bad disk view faults (Err Failed) faults' = (disk.key ≡ view) × Rose faults faults'
ReadEnds Bad disk view faults (Err (Damaged at)) faults' = (disk.key ≡ view) × Told disk (λ sectors. Bad sectors at)

-- and the disk is as it was, but for its count of faults
pub record ReadsOnly (Bad : List (List ℕ) → ℕ → Type 0) (disk : Disk) (view faults : ℕ) (result : Result (Unit {0}) MountHalt) (new : Disk) (faults' : ℕ) : Type 0 where
  pub ends : ReadEnds Bad disk view faults result faults'
  pub same : new ≡ disk
  pub later : faults ≤ faults'

-- no damage
abbrev pub NoDamage : List (List ℕ) → ℕ → Type 0
NoDamage sectors at = ⊥

-- a count of clients that a volume may have
pub record IsCount (clients : ℕ) : Type 0 where
  pub some : 1 ≤ clients
  pub few : clients ≤ limits.clients

-- the slots of the first clients were read
abbrev pub AreSlotsRead : List (List ℕ) → ℕ → List Slot → Type 0
AreSlotsRead sectors count slots = (client : ℕ) (slot : Slot) → client < count → slice_get slots client ≡ Some slot → SpellsSlot (sector sectors (at_slot client)) slot

abbrev pub AreSlots : List Slot → Type 0
AreSlots slots = (client : ℕ) (slot : Slot) → slice_get slots client ≡ Some slot → IsSlot slot

-- what an inode and its directory may be
pub record IsNode (number : ℕ) (inode : Inode) (slots : Slots) : Type 0 where
  pub inode_is : IsInode inode
  pub has : HasSlots inode.kind inode slots
  pub root : IsRootDir number inode

-- the first inodes were read
abbrev pub AreInodesRead : List (List ℕ) → ℕ → List Inode → Type 0
AreInodesRead sectors count inodes = (number : ℕ) (inode : Inode) → number < count → slice_get inodes number ≡ Some inode → SpellsInode (sector sectors (at_inode number)) inode

-- what an inode of a number may be: the root is a directory
pub record MayStand (number : ℕ) (inode : Inode) : Type 0 where
  pub inode_is : IsInode inode
  pub root : IsRootDir number inode

abbrev pub MayAllStand : ℕ → List Inode → Type 0
MayAllStand count inodes = (number : ℕ) (inode : Inode) → number < count → slice_get inodes number ≡ Some inode → MayStand number inode

abbrev pub AreNodes : List Inode → List Slots → Type 0
AreNodes inodes directories = (number : ℕ) (inode : Inode) (slots : Slots) → slice_get inodes number ≡ Some inode → slice_get directories number ≡ Some slots → IsNode number inode slots

abbrev pub AreNodesRead : List (List ℕ) → ℕ → List Inode → List Slots → Type 0
AreNodesRead sectors count inodes directories = (number : ℕ) (inode : Inode) (slots : Slots) → number < count → slice_get inodes number ≡ Some inode → slice_get directories number ≡ Some slots
    → IsNodeRead sectors number inode slots

-- a mount found no damage
abbrev pub NeverDamaged : Result (Unit {0}) MountHalt → Type 0
NeverDamaged result = (at : ℕ) → result ≢ Err (Damaged at)

-- what the parts of a volume may be
pub record AreParts (clients : ℕ) (free : List Bool) (slots : List Slot) (inodes : List Inode) (directories : List Slots) : Type 0 where
  pub count : IsCount clients
  pub map_is : length free ≡ limits.blocks
  pub slots_are : AreSlots slots
  pub nodes_are : AreNodes inodes directories

-- all parts of a volume were read
pub record ArePartsRead (sectors : List (List ℕ)) (clients : ℕ) (free : List Bool) (slots : List Slot) (inodes : List Inode) (directories : List Slots) : Type 0 where
  pub head_read : SpellsHead (sector sectors at_head) clients
  pub map_read : SpellsMap (sector sectors at_map) free
  pub slots_read : AreSlotsRead sectors limits.clients slots
  pub nodes_read : AreNodesRead sectors limits.inodes inodes directories
