-- What is to be shown of an edit and an entry, so that the edit's homes lead to sectors that stand for the
-- history with the entry.
use Rattle.std.proofs.Common.{◌≡◌, ◌∷◌, ℕ, List, Some, slice_get}
use Rattle.cal_base.specs.declared.identity.ClientId.{ClientId}
use Rattle.inode.specs.declared.inode.Inode.{Inode}
use Rattle.inode.specs.declared.inode.Kind.TheVariants.{File}
use Rattle.request_log.specs.declared.slot.Slot.{Slot}
use Rattle.tree_law.specs.Legal.{IsNext, after, tree_of}
use Rattle.tree_law.specs.Tree.{Tree, node_at}
use Rattle.tree_law.specs.declared.entry.Entry.{Entry}
use Rattle.volume.specs.Stands.{StandsForClient, StandsForNode}
use Rattle.volume.specs.Volume.{Volume, file_byte}
use Rattle.volume_edit.specs.Blocks.{TakesFree}
use Rattle.volume_edit.specs.Edit.{IsEdit, edited}
use Rattle.volume_edit.specs.declared.edit.Edit.{Edit}

-- the bytes of a volume's files are the same on other sectors
pub record KeepsFiles (v : Volume) (sectors others : List (List ℕ)) : Type 0 where
  pub same : (number : ℕ) (inode : Inode) → slice_get v.inodes number ≡ Some inode → inode.kind ≡ File → (i : ℕ) → file_byte others inode i ≡ file_byte sectors inode i

-- all inodes stand for the nodes of a tree
pub record StandForNodes (sectors : List (List ℕ)) (v : Volume) (tree : Tree) : Type 0 where
  pub node : (number : ℕ) (inode : Inode) → slice_get v.inodes number ≡ Some inode → StandsForNode sectors v tree number inode (node_at tree (record { 0 = number }))

-- all slots stand for the clients of a history
pub record StandForClients (v : Volume) (tree : Tree) (history : List Entry) : Type 0 where
  pub slot : (client : ClientId) (slot : Slot) → slice_get v.slots client.0 ≡ Some slot → StandsForClient slot tree history client

pub record Fits (sectors : List (List ℕ)) (v : Volume) (history : List Entry) (e : Edit) (entry : Entry) : Type 0 where
  pub edit : IsEdit v e
  pub takes : TakesFree v e
  pub next : IsNext (tree_of history) entry
  pub nodes : (others : List (List ℕ)) → KeepsFiles v sectors others → StandForNodes others (edited v e) (after (tree_of history) entry)
  pub clients : StandForClients (edited v e) (after (tree_of history) entry) (entry ∷ history)
