-- The plan of a flush: its blocks go to the least free data blocks, and the inode points at them.
use Rattle.std.specs.Prelude.{◌≡◌, ◌≤◌, ◌<◌, ◌+◌, ◌-◌, ◌^◌, ◌%◌, ◌++◌, ℕ, suc, Bool, true, false, List, [], ◌∷◌, length, replicate, take, slice_index, slice_set, Option, Some, None}
use Rattle.cal_base.specs.Limits as limits
use Rattle.shared_disk.specs.Map.{at_block}
use Rattle.cal_base.specs.declared.identity.ClientId.{ClientId}
use Rattle.cal_base.specs.Blocks.{block_count}
use Rattle.inode.specs.declared.inode.Inode.{Inode}
use Rattle.inode.specs.declared.inode.Kind.TheVariants.{File}
use Rattle.shared_disk.specs.Sectors.{cut, written}
use Rattle.token_kind.specs.Flush.{IsFlush, IsFlushed}
use Rattle.token_kind.specs.declared.flush.Flush.{Flush}
use Rattle.tree_law.specs.FileState.{FileState, is_writer}
use Rattle.tree_law.specs.Legal.{IsNext, tree_of}
use Rattle.tree_law.specs.Tree.{node_at}
use Rattle.tree_law.specs.declared.entry.Entry.{Entry}
use Rattle.tree_law.specs.declared.entry.Entry.TheVariants.{Flush as Flushed}
use Rattle.tree_law.specs.declared.node.Node.TheVariants.{Regular}
use Rattle.volume.specs.Stands.{StandsForHistory}
use Rattle.volume.specs.Volume.{Volume}
use Rattle.volume_edit.specs.Blocks.{GoToFree}
use Rattle.volume_edit.specs.Edit.{IsEdit, edited, inode_at, slot_at}
use Rattle.volume_edit.specs.Homes.{AreHomes}
use Rattle.volume_edit.specs.declared.edit.Edit.{Edit}
use Rattle.volume_plan.specs.Plans.{free_count}

-- the free blocks, ascending; the first of these flags is that of this block
unfoldable pub free_from : ℕ → List Bool → List ℕ
free_from block [] = []
free_from block (true ∷ free) = block ∷ free_from (suc block) free
free_from block (false ∷ free) = free_from (suc block) free

-- the least free blocks, as many as there are pieces
abbrev pub blocks_for : Volume → Flush → List ℕ
blocks_for v flush = take (length flush.pieces) (free_from 0 v.free)

-- pointers of which those from a place on are holes
abbrev pub cut_pointers : ℕ → List ℕ → List ℕ
cut_pointers count pointers = take count pointers ++ replicate (length pointers - count) 0

-- pointers at the blocks of pieces, by their indexes
abbrev pub pointed_at : List ℕ → List (ℕ × List ℕ) → List ℕ → List ℕ
pointed_at pointers [] blocks = pointers
pointed_at pointers (piece ∷ pieces) [] = pointers
pointed_at pointers (piece ∷ pieces) (block ∷ blocks) = pointed_at (slice_set pointers piece.0 (block + 1)) pieces blocks

-- the inode of a file after a flush
abbrev pub flushed_inode : Inode → Flush → List ℕ → Inode
flushed_inode inode flush blocks = record {
  kind = inode.kind;
  named = inode.named;
  size = flush.size;
  blocks = pointed_at (cut_pointers (block_count flush.cut) inode.blocks) flush.pieces blocks;
}

-- the writes of a flush's pieces, which come before its transaction
abbrev pub data_writes : List ℕ → List (ℕ × List ℕ) → List (ℕ × List ℕ)
data_writes blocks [] = []
data_writes [] (piece ∷ pieces) = []
data_writes (block ∷ blocks) (piece ∷ pieces) = (at_block block, piece.1) ∷ data_writes blocks pieces

-- a flush that a volume can take: of a file, with as many free blocks as it has pieces
pub record CanTake (v : Volume) (flush : Flush) : Type 0 where
  pub is : IsFlush flush
  pub file : (inode_at v.inodes flush.ino.0).kind ≡ File
  pub enough : length flush.pieces ≤ free_count v

-- the sectors with a flush's pieces in their blocks, and the inode that points at them
abbrev pub with_pieces : List (List ℕ) → Volume → Flush → List (List ℕ)
with_pieces sectors v flush = written sectors (data_writes (blocks_for v flush) flush.pieces)

abbrev pub inode_flushed : Volume → Flush → Inode
inode_flushed v flush = flushed_inode (inode_at v.inodes flush.ino.0) flush (blocks_for v flush)

-- a byte over which a flush's pieces are laid: that of the piece, if one holds it, or the one beneath
abbrev pub byte_over : Option (List ℕ) → ℕ → ℕ → ℕ
byte_over (Some piece) i beneath = slice_index piece (i % limits.block_size)
byte_over None i beneath = beneath

-- what a flush of a client alters
abbrev pub flush_of : Volume → ClientId → Flush → Edit
flush_of v client flush = record {
  slot = Some (record {
    client = client;
    slot = record { purged = (slot_at v.slots client.0).purged; call = (slot_at v.slots client.0).call; flush = flush.number; reply = (slot_at v.slots client.0).reply };
  });
  inode = Some (record { ino = flush.ino; inode = flushed_inode (inode_at v.inodes flush.ino.0) flush (blocks_for v flush) });
  growth = None;
  leaving = None;
  entering = None;
}

-- A flush that a client sends: the next one by its number, of a file that it alone wrote, which turns what is
-- kept of the file into its present bytes. As many blocks are free as it has pieces.
pub record IsFlushDue (v : Volume) (history : List Entry) (client : ClientId) (flush : Flush) (file : FileState) : Type 0 where
  pub known : client.0 < limits.clients
  pub is : IsFlush flush
  pub next : flush.number ≡ (slot_at v.slots client.0).flush + 1
  pub fits : flush.number < 2 ^ 64
  pub there : node_at (tree_of history) flush.ino ≡ Some (Regular file)
  pub writer : is_writer file.writer client ≡ true
  pub bytes : IsFlushed file.kept flush.size flush.cut flush.pieces file.contents
  pub enough : length flush.pieces ≤ free_count v

-- What a flush promises: its pieces go to free blocks, and wherever a stop ends their writes the sectors stand
-- for the history as it was; with the homes in place behind them they stand for it with the flush.
pub record FlushLeads (sectors : List (List ℕ)) (v : Volume) (history : List Entry) (client : ClientId) (flush : Flush) : Type 0 where
  pub goes : GoToFree v (data_writes (blocks_for v flush) flush.pieces)
  pub stopped : (made : ℕ) (torn : Option (List ℕ)) → StandsForHistory (cut sectors (data_writes (blocks_for v flush) flush.pieces) made torn) v history
  pub before : StandsForHistory (written sectors (data_writes (blocks_for v flush) flush.pieces)) v history
  pub edit : IsEdit v (flush_of v client flush)
  pub next : IsNext (tree_of history) (Flushed client flush.ino)
  pub stands : (homes : List (ℕ × List ℕ)) → AreHomes v (flush_of v client flush) homes
      → StandsForHistory (written (written sectors (data_writes (blocks_for v flush) flush.pieces)) homes) (edited v (flush_of v client flush)) (Flushed client flush.ino ∷ history)
