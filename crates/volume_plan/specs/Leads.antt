-- What a plan promises: with its homes in place the sectors stand for one entry more.
use Rattle.std.specs.Prelude.{◌≡◌, ◌≤◌, ◌<◌, ◌^◌, ◌∷◌, ℕ, true, false, List, length, Some}
use Rattle.cal_base.specs.Limits as limits
use Rattle.cal_base.specs.declared.identity.ClientId.{ClientId}
use Rattle.cal_base.specs.declared.identity.Ino.{Ino}
use Rattle.shared_disk.specs.Sectors.{written}
use Rattle.tree_law.specs.Change.{HasPaths, is_change}
use Rattle.tree_law.specs.Legal.{IsLegal, IsNext, is_flushed_for, tree_of}
use Rattle.tree_law.specs.Tree.{descriptor_at, is_purged}
use Rattle.tree_law.specs.declared.call.Call.{Call}
use Rattle.tree_law.specs.declared.descriptor.Descriptor.{Descriptor}
use Rattle.tree_law.specs.declared.entry.Entry.{Entry}
use Rattle.volume.specs.Stands.{StandsForHistory}
use Rattle.volume.specs.Volume.{Volume}
use Rattle.volume_edit.specs.Edit.{IsEdit, IsVolume, edited}
use Rattle.volume_edit.specs.Homes.{AreHomes}
use Rattle.volume_edit.specs.declared.edit.Edit.{Edit}
use Rattle.volume_plan.specs.Plans.{is_opened}

-- replayed sectors, and a volume within its grammar, that stand for a legal history
pub record Mounted (sectors : List (List ℕ)) (v : Volume) (history : List Entry) : Type 0 where
  pub count : length sectors ≡ limits.sectors
  pub volume : IsVolume v
  pub stands : StandsForHistory sectors v history
  pub legal : IsLegal history

-- with the homes of an edit in place the sectors stand for the history with this entry, and that is legal
pub record Leads (sectors : List (List ℕ)) (v : Volume) (history : List Entry) (e : Edit) (entry : Entry) : Type 0 where
  pub edit : IsEdit v e
  pub next : IsNext (tree_of history) entry
  pub stands : (homes : List (ℕ × List ℕ)) → AreHomes v e homes → StandsForHistory (written sectors homes) (edited v e) (entry ∷ history)

-- A change that a server may carry out for a client. `opened` has every file with a descriptor, and no file
-- that the change removes has a writer.
pub record IsAsked (history : List Entry) (client : ClientId) (number : ℕ) (call : Call) (opened : List Ino) : Type 0 where
  pub known : client.0 < limits.clients
  pub present : is_purged (tree_of history) client ≡ false
  pub from_one : 1 ≤ number
  pub fits : number < 2 ^ 64
  pub change : is_change call ≡ true
  pub paths : HasPaths call
  pub lists : (other : ClientId) (fd : ℕ) (descriptor : Descriptor) → descriptor_at (tree_of history) other fd ≡ Some descriptor → is_opened opened descriptor.ino ≡ true
  pub flushed : is_flushed_for (tree_of history) client call ≡ true
