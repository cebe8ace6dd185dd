-- With the homes of an edit in place the sectors stand for a history, where the inodes and the slots do.
use Rattle.std.proofs.Common.{◌≡◌, ◌∷◌, ℕ, List, length}
use Rattle.cal_base.specs.Limits as limits
use Rattle.shared_disk.specs.Sectors.{written}
use Rattle.tree_law.specs.Legal.{tree_of}
use Rattle.tree_law.specs.declared.entry.Entry.{Entry}
use Rattle.volume.specs.Stands.{AreBlocksKept, StandsForHistory}
use Rattle.volume.specs.Volume.{SpellsVolume, Volume}
use Rattle.volume_edit.proofs.BlocksKept.{edited_blocks}
use Rattle.volume_edit.proofs.Spelling.{edited_spelled, same_file}
use Rattle.volume_edit.specs.Blocks.{TakesFree}
use Rattle.volume_edit.specs.Edit.{IsEdit, IsVolume, edited}
use Rattle.volume_edit.specs.Homes.{AreHomes}
use Rattle.volume_edit.specs.declared.edit.Edit.{Edit}
use Rattle.volume_plan.proofs.Fits.{Fits, KeepsFiles, StandForClients, StandForNodes}
use Rattle.volume_plan.specs.Leads.{Leads, Mounted}

pub edit_stands : (sectors : List (List ℕ)) (v : Volume) (e : Edit) (homes : List (ℕ × List ℕ)) (history : List Entry) → length sectors ≡ limits.sectors → SpellsVolume sectors v → IsVolume v → AreBlocksKept v → IsEdit v e → TakesFree v e → AreHomes v e homes
    → StandForNodes (written sectors homes) (edited v e) (tree_of history) → StandForClients (edited v e) (tree_of history) history → StandsForHistory (written sectors homes) (edited v e) history
edit_stands sectors v e homes history long spells is kept edit takes are nodes clients = record {
  spells = edited_spelled sectors v e homes long spells is kept edit takes are;
  nodes = nodes.node;
  blocks = edited_blocks v e is kept edit takes;
  clients = clients.slot;
}

keeps_files : (sectors : List (List ℕ)) (v : Volume) (e : Edit) (homes : List (ℕ × List ℕ)) → length sectors ≡ limits.sectors → SpellsVolume sectors v → IsVolume v → AreBlocksKept v → IsEdit v e → TakesFree v e → AreHomes v e homes
    → KeepsFiles v sectors (written sectors homes)
keeps_files sectors v e homes long spells is kept edit takes are = record { same = λ number inode there file i. same_file sectors v e homes long spells is kept edit takes are number inode there file i }

-- what fits an entry leads to it
pub fits_leads : (sectors : List (List ℕ)) (v : Volume) (history : List Entry) (e : Edit) (entry : Entry) → Mounted sectors v history → Fits sectors v history e entry → Leads sectors v history e entry
fits_leads sectors v history e entry m f = record {
  edit = f.edit;
  next = f.next;
  stands = λ homes are. edit_stands sectors v e homes (entry ∷ history) m.count m.stands.spells m.volume m.stands.blocks f.edit f.takes are
      (f.nodes (written sectors homes) (keeps_files sectors v e homes m.count m.stands.spells m.volume m.stands.blocks f.edit f.takes are)) f.clients;
}
