-- Which sector a mount calls damaged: the first that is outside its grammar.
use Rattle.std.specs.Prelude.{◌≡◌, ◌<◌, ◌/◌, ℕ, zero, suc, Bool, List, [], slice_index}
use Rattle.cal_base.specs.Limits as limits
use Rattle.shared_disk.specs.Map.{at_head, at_map, at_slot, at_inode, at_pointer}
use Rattle.directory.specs.Directory.{Continues}
use Rattle.inode.specs.Inode.{SpellsInode}
use Rattle.inode.specs.declared.inode.Inode.{Inode}
use Rattle.inode.specs.declared.inode.Kind.TheVariants.{Dir}
use Rattle.journal.specs.Layout.{sector}
use Rattle.request_log.specs.Slot.{SpellsSlot}
use Rattle.request_log.specs.declared.slot.Slot.{Slot}
use Rattle.space_map.specs.SpaceMap.{SpellsMap}
use Rattle.volume.specs.Head.{SpellsHead}
use Rattle.volume.specs.Volume.{Slots, pointed}

-- the first so many blocks of a directory were put one behind the other
pub record LoadsMore (Before : Slots → Type 0) (block : List ℕ) (slots : Slots) : Type 0 where
  pub before : Slots
  pub loaded : Before before
  pub continues : Continues before block slots

unfoldable pub Loads : List (List ℕ) → Inode → ℕ → Slots → Type 0
Loads sectors inode zero slots = slots ≡ []
Loads sectors inode (suc block) slots = LoadsMore (Loads sectors inode block) (pointed sectors (slice_index inode.blocks block)) slots

-- inode 0 is the root, a directory
abbrev pub IsRootDir : ℕ → Inode → Type 0
IsRootDir number inode = number ≡ 0 → inode.kind ≡ Dir

-- the head, the map, a client's slot and an inode are in their grammar; the root is a directory
pub record HasHead (sectors : List (List ℕ)) : Type 0 where
  pub clients : ℕ
  pub spelled : SpellsHead (sector sectors at_head) clients

pub record HasMap (sectors : List (List ℕ)) : Type 0 where
  pub free : List Bool
  pub spelled : SpellsMap (sector sectors at_map) free

pub record HasSlot (sectors : List (List ℕ)) (client : ℕ) : Type 0 where
  pub slot : Slot
  pub spelled : SpellsSlot (sector sectors (at_slot client)) slot

pub record HasInode (sectors : List (List ℕ)) (number : ℕ) : Type 0 where
  pub inode : Inode
  pub spelled : SpellsInode (sector sectors (at_inode number)) inode
  pub root : IsRootDir number inode

-- an inode and its directory were read
pub record IsNodeRead (sectors : List (List ℕ)) (number : ℕ) (inode : Inode) (slots : Slots) : Type 0 where
  pub spelled : SpellsInode (sector sectors (at_inode number)) inode
  pub blocks : inode.kind ≡ Dir → Loads sectors inode (inode.size / limits.block_size) slots

-- the blocks of an inode's directory are in their grammar, if it is one
pub record HasBlocks (sectors : List (List ℕ)) (number : ℕ) : Type 0 where
  pub inode : Inode
  pub slots : Slots
  pub read : IsNodeRead sectors number inode slots

-- the head, the map, this client's slot or this inode is outside its grammar
abbrev pub LacksHead : List (List ℕ) → ℕ → Type 0
LacksHead sectors at = (at ≡ at_head) × (HasHead sectors → ⊥)

abbrev pub LacksMap : List (List ℕ) → ℕ → Type 0
LacksMap sectors at = (at ≡ at_map) × (HasMap sectors → ⊥)

abbrev pub LacksSlot : ℕ → List (List ℕ) → ℕ → Type 0
LacksSlot client sectors at = (at ≡ at_slot client) × (HasSlot sectors client → ⊥)

abbrev pub LacksInode : ℕ → List (List ℕ) → ℕ → Type 0
LacksInode number sectors at = (at ≡ at_inode number) × (HasInode sectors number → ⊥)

-- the block at a pointer doesn't continue a directory
abbrev pub BreaksOff : Slots → ℕ → List (List ℕ) → ℕ → Type 0
BreaksOff before pointer sectors at = (at ≡ at_pointer pointer) × ((slots : Slots) → Continues before (pointed sectors pointer) slots → ⊥)

-- a block of this inode's directory doesn't continue the blocks before it
pub record LacksBlock (number : ℕ) (sectors : List (List ℕ)) (at : ℕ) : Type 0 where
  pub inode : Inode
  pub spelled : SpellsInode (sector sectors (at_inode number)) inode
  pub kind : inode.kind ≡ Dir
  pub block : ℕ
  pub within : block < inode.size / limits.block_size
  pub before : Slots
  pub loaded : Loads sectors inode block before
  pub off : BreaksOff before (slice_index inode.blocks block) sectors at

-- the first slot, the first inode, and by inode the first block of a directory that is outside its grammar
pub record FirstSlot (sectors : List (List ℕ)) (at : ℕ) : Type 0 where
  pub client : ℕ
  pub within : client < limits.clients
  pub before : (lower : ℕ) → lower < client → HasSlot sectors lower
  pub lacks : LacksSlot client sectors at

pub record FirstInode (sectors : List (List ℕ)) (at : ℕ) : Type 0 where
  pub number : ℕ
  pub within : number < limits.inodes
  pub before : (lower : ℕ) → lower < number → HasInode sectors lower
  pub lacks : LacksInode number sectors at

pub record FirstBlock (sectors : List (List ℕ)) (at : ℕ) : Type 0 where
  pub number : ℕ
  pub within : number < limits.inodes
  pub before : (lower : ℕ) → lower < number → HasBlocks sectors lower
  pub lacks : LacksBlock number sectors at

abbrev pub HasAllSlots : List (List ℕ) → Type 0
HasAllSlots sectors = (client : ℕ) → client < limits.clients → HasSlot sectors client

abbrev pub HasAllInodes : List (List ℕ) → Type 0
HasAllInodes sectors = (number : ℕ) → number < limits.inodes → HasInode sectors number

-- the first inode or block that is outside its grammar, where all inodes come before the blocks
pub data FirstNode (sectors : List (List ℕ)) (at : ℕ) : Type 0 where
  inode : FirstInode sectors at → FirstNode sectors at
  block : HasAllInodes sectors → FirstBlock sectors at → FirstNode sectors at

-- The first sector that is outside its grammar, in the order in which a mount reads them: the head, the map,
-- the slots, the inodes, and then by inode the blocks of its directory.
pub data IsDamage (sectors : List (List ℕ)) (at : ℕ) : Type 0 where
  head : LacksHead sectors at → IsDamage sectors at
  map : HasHead sectors → LacksMap sectors at → IsDamage sectors at
  slot : HasHead sectors → HasMap sectors → FirstSlot sectors at → IsDamage sectors at
  node : HasHead sectors → HasMap sectors → HasAllSlots sectors → FirstNode sectors at → IsDamage sectors at
