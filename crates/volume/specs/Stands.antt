-- When sectors stand for a history: they replay to its tree, less unflushed writes.
use Rattle.std.specs.Prelude.{◌≡◌, ◌⊎◌, ◌↔◌, ◌+◌, ◌<◌, ℕ, false, List, length, slice_get, slice_index, Option, Some, None}
use Rattle.std.specs.FinMap as map
use Rattle.cal_base.specs.Limits as limits
use Rattle.cal_base.specs.declared.identity.ClientId.{ClientId}
use Rattle.cal_base.specs.declared.identity.Ino.{Ino}
use Rattle.directory.specs.Directory.{Names as NamesInode}
use Rattle.directory.specs.declared.entry.DirEntry.{DirEntry}
use Rattle.inode.specs.declared.inode.Inode.{Inode}
use Rattle.inode.specs.declared.inode.Kind.TheVariants.{Free, File, Dir}
use Rattle.journal.specs.Commit.{replayed}
use Rattle.request_log.specs.declared.slot.Slot.{Slot}
use Rattle.shared_disk.specs.Disk.{Disk}
use Rattle.tree_law.specs.FileState.{FileState}
use Rattle.tree_law.specs.Idle.{is_named}
use Rattle.tree_law.specs.Legal.{tree_of}
use Rattle.tree_law.specs.Names.{Names}
use Rattle.tree_law.specs.Tree.{Tree, is_purged, node_at}
use Rattle.tree_law.specs.declared.entry.Entry.{Entry}
use Rattle.tree_law.specs.declared.node.Node.{Node}
use Rattle.tree_law.specs.declared.node.Node.TheVariants.{Directory, Regular}
use Rattle.volume.specs.Numbers.{flush_count, last_change}
use Rattle.volume.specs.Volume.{SpellsVolume, Volume, file_byte, slots_of}

-- an inode is a directory, whose slots that aren't empty are these names, each once
pub record StandsForDirectory (inode : Inode) (slots : List (Option DirEntry)) (names : Names) : Type 0 where
  pub kind : inode.kind ≡ Dir
  pub entries : (name : List ℕ) (ino : Ino) → (map.get names name ≡ Some ino) ↔ NamesInode slots name ino.0

-- an inode is a file with the bytes that last, and zeros behind them; it is named exactly if the tree names it
pub record StandsForFile (sectors : List (List ℕ)) (inode : Inode) (tree : Tree) (number : ℕ) (file : FileState) : Type 0 where
  pub kind : inode.kind ≡ File
  pub size : inode.size ≡ length file.kept
  pub bytes : (i : ℕ) → file_byte sectors inode i ≡ slice_index file.kept i
  pub named : inode.named ≡ is_named tree number

-- an inode of which the tree has nothing is free, or a file that no directory names
abbrev pub StandsForNothing : Inode → Type 0
StandsForNothing inode = (inode.kind ≡ Free) ⊎ ((inode.kind ≡ File) × (inode.named ≡ false))

abbrev pub StandsForNode : List (List ℕ) → Volume → Tree → ℕ → Inode → Option Node → Type 0
StandsForNode sectors v tree number inode (Some (Directory names)) = StandsForDirectory inode (slots_of v number) names
StandsForNode sectors v tree number inode (Some (Regular file)) = StandsForFile sectors inode tree number file
StandsForNode sectors v tree number inode None = StandsForNothing inode

-- a pointer of an inode, at this place, names a data block
pub record Points (inodes : List Inode) (number place block : ℕ) : Type 0 where
  pub inode : Inode
  pub there : slice_get inodes number ≡ Some inode
  pub names : slice_index inode.blocks place ≡ block + 1

-- some pointer names a data block
pub record IsPointed (inodes : List Inode) (block : ℕ) : Type 0 where
  pub number : ℕ
  pub place : ℕ
  pub points : Points inodes number place block

-- a block is in use exactly if a pointer names it, and no two pointers name one block
pub record AreBlocksKept (v : Volume) : Type 0 where
  pub used : (block : ℕ) → block < limits.blocks → (slice_get v.free block ≡ Some false) ↔ IsPointed v.inodes block
  pub apart : (i j p q block : ℕ) → Points v.inodes i p block → Points v.inodes j q block → (i ≡ j) × (p ≡ q)

-- a client's slot: whether it is purged, the number and reply of its last change, and the count of its flushes
pub record StandsForClient (slot : Slot) (tree : Tree) (history : List Entry) (client : ClientId) : Type 0 where
  pub purged : slot.purged ≡ is_purged tree client
  pub call : slot.call ≡ (last_change client history).number
  pub reply : slot.reply ≡ (last_change client history).reply
  pub flush : slot.flush ≡ flush_count client history

-- a volume stands for a history
pub record StandsForHistory (sectors : List (List ℕ)) (v : Volume) (history : List Entry) : Type 0 where
  pub spells : SpellsVolume sectors v
  pub nodes : (number : ℕ) (inode : Inode) → slice_get v.inodes number ≡ Some inode → StandsForNode sectors v (tree_of history) number inode (node_at (tree_of history) (record { 0 = number }))
  pub blocks : AreBlocksKept v
  pub clients : (client : ClientId) (slot : Slot) → slice_get v.slots client.0 ≡ Some slot → StandsForClient slot (tree_of history) history client

-- Sectors stand for a history: they can be replayed, and what they replay to stands for it.
pub record Stands (sectors : List (List ℕ)) (history : List Entry) : Type 0 where
  pub after : List (List ℕ)
  pub replays : replayed sectors ≡ Some after
  pub volume : Volume
  pub stands : StandsForHistory after volume history

-- the sectors of a disk are told, and stand for a history
pub record TellsStanding (disk : Disk) (history : List Entry) : Type 0 where
  pub sectors : List (List ℕ)
  pub told : disk.sectors ≡ Some sectors
  pub stands : Stands sectors history
