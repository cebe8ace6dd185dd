-- What the plans of purges, reapings and flushes, and a fresh format, promise of the sectors.
use Rattle.std.specs.Prelude.{◌≡◌, ◌∷◌, [], ℕ, List, length, Option, Some}
use Rattle.cal_base.specs.Limits as limits
use Rattle.cal_base.specs.declared.identity.ClientId.{ClientId}
use Rattle.journal.specs.Commit.{IsClosed, replayed}
use Rattle.journal.specs.Layout.{outside}
use Rattle.shared_disk.specs.Disk.{Disk}
use Rattle.shared_disk.specs.Sectors.{cut, written}
use Rattle.token_kind.specs.declared.flush.Flush.{Flush}
use Rattle.tree_law.specs.Legal.{IsNext, tree_of}
use Rattle.tree_law.specs.declared.entry.Entry.{Entry}
use Rattle.tree_law.specs.declared.entry.Entry.TheVariants.{Flush as Flushed}
use Rattle.volume.specs.Stands.{StandsForHistory}
use Rattle.volume.specs.Volume.{Volume}
use Rattle.volume_edit.specs.Blocks.{GoToFree}
use Rattle.volume_edit.specs.Edit.{edited}
use Rattle.volume_edit.specs.declared.edit.Edit.{Edit}
use Rattle.image.specs.Image.{fresh_volume}

-- an entry is legal, and with these homes in place the sectors stand for the history with it
pub record EntryStands (sectors : List (List ℕ)) (v : Volume) (history : List Entry) (e : Edit) (homes : List (ℕ × List ℕ)) (entry : Entry) : Type 0 where
  pub next : IsNext (tree_of history) entry
  pub stands : StandsForHistory (written sectors homes) (edited v e) (entry ∷ history)

-- a flush's data goes to free blocks; wherever a stop ends its writes the sectors stand for the history as it
-- was, and with the homes in place behind them they stand for it with the flush
pub record FlushStands (sectors : List (List ℕ)) (v : Volume) (history : List Entry) (client : ClientId) (flush : Flush) (blocks : List (ℕ × List ℕ)) (e : Edit) (homes : List (ℕ × List ℕ)) : Type 0 where
  pub goes : GoToFree v blocks
  pub stopped : (made : ℕ) (torn : Option (List ℕ)) → StandsForHistory (cut sectors blocks made torn) v history
  pub before : StandsForHistory (written sectors blocks) v history
  pub last : EntryStands (written sectors blocks) v history e homes (Flushed client flush.ino)

-- the sectors of a disk are told, all of them, the gate is closed, so that they need no replay, and they stand for the empty history by the volume of a fresh format
pub record TellsFresh (disk : Disk) (clients : ℕ) : Type 0 where
  pub sectors : List (List ℕ)
  pub told : disk.sectors ≡ Some sectors
  pub closed : IsClosed sectors
  pub count : length sectors ≡ limits.sectors
  pub replays : replayed sectors ≡ Some (outside sectors)
  pub stands : StandsForHistory (outside sectors) (fresh_volume clients) []
