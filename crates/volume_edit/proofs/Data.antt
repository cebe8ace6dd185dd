-- Data that is written to free blocks leaves the volume, the bytes of its files, and what it stands for.
use Rattle.std.proofs.Common.{◌≡◌, ◌≢◌, ◌<◌, ◌+◌, ◌/◌, ◌%◌, ◌==◌, ℕ, zero, suc, true, false, List, [], ◌∷◌, Option, Some, None, if◌then◌else◌, slice_get, slice_index, refl, sym, ap, ◌∙◌, subst, arith}
use Rattle.std.proofs.lemmas.Option.{slice_get_within}
use Rattle.directory.specs.Block.{SpellsBlock}
use Rattle.directory.specs.Directory.{block_slots}
use Rattle.inode.specs.Inode.{IsInode, SpellsInode}
use Rattle.inode.specs.declared.inode.Inode.{Inode}
use Rattle.journal.specs.Layout.{sector}
use Rattle.journal.proofs.Moments.{Each}
use Rattle.journal.proofs.Sectors.{sector_written}
use Rattle.request_log.specs.Slot.{SpellsSlot}
use Rattle.request_log.specs.declared.slot.Slot.{Slot}
use Rattle.shared_disk.specs.Sectors.{written}
use Rattle.space_map.specs.SpaceMap.{SpellsMap}
use Rattle.tree_law.specs.Legal.{tree_of}
use Rattle.tree_law.specs.Tree.{Tree, node_at}
use Rattle.tree_law.specs.declared.entry.Entry.{Entry}
use Rattle.tree_law.specs.declared.node.Node.{Node}
use Rattle.tree_law.specs.declared.node.Node.TheVariants.{Directory, Regular}
use Rattle.volume.specs.Head.{SpellsHead}
use Rattle.volume.specs.Stands.{AreBlocksKept, StandsForHistory, StandsForNode}
use Rattle.volume.specs.Volume.{Slots, SpellsDirectory, SpellsVolume, Volume, file_byte, pointed, slots_of}
use Rattle.volume_edit.specs.Blocks.{GoToFree}

-- a sector below the data blocks isn't written
apart_below : (v : Volume) (writes : List (ℕ × List ℕ)) (j : ℕ) → GoToFree v writes → j < 548 → Each (λ i. j ≢ i) writes
apart_below v [] j free below = tt
apart_below v (w ∷ ws) j free below = ((λ (e : j ≡ w.0). (let s = free.0.sector in omega arith)), apart_below v ws j free.1 below)

-- nor is the sector of a block in use
apart_used : (v : Volume) (writes : List (ℕ × List ℕ)) (block : ℕ) → GoToFree v writes → slice_get v.free block ≡ Some false → Each (λ i. 548 + block ≢ i) writes
apart_used v [] block free used = tt
apart_used v (w ∷ ws) block free used = (apart, apart_used v ws block free.1 used)
  where
    apart : 548 + block ≢ w.0
    apart e =
        let s = free.0.sector in
        let same : free.0.block ≡ block = omega arith in
        let both : Some true ≡ Some false = sym free.0.free ∙ ap (slice_get v.free) same ∙ used in
        cc

pub sector_below : (sectors : List (List ℕ)) (v : Volume) (writes : List (ℕ × List ℕ)) (j : ℕ) → GoToFree v writes → j < 548 → sector (written sectors writes) j ≡ sector sectors j
sector_below sectors v writes j free below = sector_written writes j (apart_below v writes j free below) sectors

-- what a pointer points at is as it was
pub pointed_same : (sectors : List (List ℕ)) (v : Volume) (writes : List (ℕ × List ℕ)) (number place pointer : ℕ) (inode : Inode) → GoToFree v writes → AreBlocksKept v
    → slice_get v.inodes number ≡ Some inode → IsInode inode → slice_index inode.blocks place ≡ pointer → pointed (written sectors writes) pointer ≡ pointed sectors pointer
pointed_same sectors v writes number place zero inode free kept there is names = sector_below sectors v writes 547 free (omega arith)
pointed_same sectors v writes number place (suc block) inode free kept there is names =
    let small = is.pointers place in
    let used : slice_get v.free block ≡ Some false = (kept.used block (omega arith)).1
    (record { number = number; place = place; points = record { inode = inode; there = there; names = (let e : slice_index inode.blocks place ≡ block + 1 = omega arith in e) } }) in
    ap (sector (written sectors writes)) (let e : 547 + suc block ≡ 548 + block = omega arith in e)
    ∙ sector_written writes (548 + block) (apart_used v writes block free used) sectors
    ∙ ap (sector sectors) (let e : 548 + block ≡ 547 + suc block = omega arith in e)

pub inode_is : (sectors : List (List ℕ)) (v : Volume) (number : ℕ) (inode : Inode) → SpellsVolume sectors v → slice_get v.inodes number ≡ Some inode → IsInode inode
inode_is sectors v number inode spells there = (spells.inodes number inode there).inode

-- the bytes of a file stay
pub data_bytes : (sectors : List (List ℕ)) (v : Volume) (writes : List (ℕ × List ℕ)) → GoToFree v writes → SpellsVolume sectors v → AreBlocksKept v
    → (number : ℕ) (inode : Inode) → slice_get v.inodes number ≡ Some inode → (i : ℕ) → file_byte (written sectors writes) inode i ≡ file_byte sectors inode i
data_bytes sectors v writes free spells kept number inode there i =
    ap (λ (bytes : List ℕ). if slice_index inode.blocks (i / 4096) == 0 then 0 else slice_index bytes (i % 4096))
    (pointed_same sectors v writes number (i / 4096) (slice_index inode.blocks (i / 4096)) inode free kept there (inode_is sectors v number inode spells there) refl)

data_directory : (sectors : List (List ℕ)) (v : Volume) (writes : List (ℕ × List ℕ)) (number : ℕ) (inode : Inode) (slots : Slots) → GoToFree v writes → SpellsVolume sectors v → AreBlocksKept v
    → slice_get v.inodes number ≡ Some inode → SpellsDirectory sectors inode slots → SpellsDirectory (written sectors writes) inode slots
data_directory sectors v writes number inode slots free spells kept there d = record {
  directory = d.directory;
  count = d.count;
  blocks = λ block within. subst (λ (s : List ℕ). SpellsBlock s (block_slots slots block))
      (sym (pointed_same sectors v writes number block (slice_index inode.blocks block) inode free kept there (inode_is sectors v number inode spells there) refl)) (d.blocks block within);
}

-- the sectors spell the same volume
pub data_spelled : (sectors : List (List ℕ)) (v : Volume) (writes : List (ℕ × List ℕ)) → GoToFree v writes → SpellsVolume sectors v → AreBlocksKept v → SpellsVolume (written sectors writes) v
data_spelled sectors v writes free spells kept = record {
  head = subst (λ (s : List ℕ). SpellsHead s v.clients) (sym (sector_below sectors v writes 0 free (omega arith))) spells.head;
  map = subst (λ (s : List ℕ). SpellsMap s v.free) (sym (sector_below sectors v writes 19 free (omega arith))) spells.map;
  slot_count = spells.slot_count;
  slots = λ client slot there. subst (λ (s : List ℕ). SpellsSlot s slot) (sym (sector_below sectors v writes (20 + client) free (slot_below client slot there))) (spells.slots client slot there);
  inode_count = spells.inode_count;
  inodes = λ number inode there. subst (λ (s : List ℕ). SpellsInode s inode) (sym (sector_below sectors v writes (36 + number) free (inode_below number inode there))) (spells.inodes number inode there);
  directories = λ number inode there dir. data_directory sectors v writes number inode (slots_of v number) free spells kept there (spells.directories number inode there dir);
  root = spells.root;
}
  where
    slot_below : (client : ℕ) (slot : Slot) → slice_get v.slots client ≡ Some slot → 20 + client < 548
    slot_below client slot there = let h = slice_get_within v.slots client slot there in let l = spells.slot_count in omega arith

    inode_below : (number : ℕ) (inode : Inode) → slice_get v.inodes number ≡ Some inode → 36 + number < 548
    inode_below number inode there = let h = slice_get_within v.inodes number inode there in let l = spells.inode_count in omega arith

-- an inode stands for a node on other sectors where the bytes of its file are the same
pub stands_on : (sectors others : List (List ℕ)) (v : Volume) (tree : Tree) (number : ℕ) (inode : Inode) (node : Option Node) → ((i : ℕ) → file_byte others inode i ≡ file_byte sectors inode i)
    → StandsForNode sectors v tree number inode node → StandsForNode others v tree number inode node
stands_on sectors others v tree number inode (Some (Directory names)) same stands = stands
stands_on sectors others v tree number inode (Some (Regular file)) same stands = record { kind = stands.kind; size = stands.size; bytes = λ i. same i ∙ stands.bytes i; named = stands.named }
stands_on sectors others v tree number inode None same stands = stands

-- and stand for the same history
pub data_stands : (sectors : List (List ℕ)) (v : Volume) (history : List Entry) (writes : List (ℕ × List ℕ)) → GoToFree v writes → StandsForHistory sectors v history → StandsForHistory (written sectors writes) v history
data_stands sectors v history writes free stands = record {
  spells = data_spelled sectors v writes free stands.spells stands.blocks;
  nodes = λ number inode there. stands_on sectors (written sectors writes) v (tree_of history) number inode (node_at (tree_of history) (record { 0 = number }))
      (data_bytes sectors v writes free stands.spells stands.blocks number inode there) (stands.nodes number inode there);
  blocks = stands.blocks;
  clients = stands.clients;
}
