-- The writes of a format, in order.
use Rattle.std.specs.Prelude.{◌+◌, ◌≡◌, ◌++◌, ◌∷◌, [], ℕ, zero, suc, true, List, length, replicate, Some}
use Rattle.cal_base.specs.Limits as limits
use Rattle.shared_disk.specs.Map.{at_gate, at_head, at_inode, at_map}
use Rattle.cal_fields.specs.Padded.{padded, zeros}
use Rattle.inode.specs.Inode.{inode_fields}
use Rattle.inode.specs.declared.inode.Inode.{Inode}
use Rattle.inode.specs.declared.inode.Kind.TheVariants.{Dir}
use Rattle.journal.specs.Commit.{IsClosed}
use Rattle.shared_disk.specs.Disk.{Disk}
use Rattle.shared_disk.specs.Sectors.{written}
use Rattle.volume.specs.Head.{head_fields}

-- a sector of zeros: the closed gate, the map where all blocks are free, the slot of a client that made
-- no change, and a free inode
abbrev pub blank : List ℕ
blank = zeros limits.block_size

-- a root directory without entries
abbrev pub root_inode : Inode
root_inode = record { kind = Dir; named = true; size = 0; blocks = replicate limits.file_blocks 0 }

unfoldable pub root_sector : List ℕ
root_sector = padded limits.block_size (inode_fields root_inode)

unfoldable pub head_sector : ℕ → List ℕ
head_sector clients = padded limits.block_size (head_fields clients)

-- writes of the same bytes to so many sectors, from the first one on
unfoldable pub to_each : ℕ → ℕ → List ℕ → List (ℕ × List ℕ)
to_each zero first bytes = []
to_each (suc count) first bytes = (first, bytes) ∷ to_each count (suc first) bytes

-- the gate, and then the map and the slots
abbrev pub free_writes : List (ℕ × List ℕ)
free_writes = (at_gate, blank) ∷ to_each (1 + limits.clients) at_map blank

-- the root, and the free inodes
abbrev pub inode_writes : List (ℕ × List ℕ)
inode_writes = (at_inode 0, root_sector) ∷ to_each limits.last_inode (at_inode 1) blank

-- the writes of a format: what is free, the inodes, and last the head
abbrev pub format_writes : ℕ → List (ℕ × List ℕ)
format_writes clients = free_writes ++ (inode_writes ++ (at_head, head_sector clients) ∷ [])

-- how many writes a format makes: the slots, the inodes, and the gate, the map and the head
abbrev pub format_length : ℕ
format_length = limits.clients + limits.inodes + 3

-- a disk tells the sectors that were there, with the writes of a format, and the gate is closed
pub record TellsFormatted (before : List (List ℕ)) (clients : ℕ) (disk : Disk) : Type 0 where
  pub told : disk.sectors ≡ Some (written before (format_writes clients))
  pub closed : IsClosed (written before (format_writes clients))
  pub count : length (written before (format_writes clients)) ≡ limits.sectors
