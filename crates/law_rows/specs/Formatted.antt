-- A cluster that was just formatted.
use Rattle.std.specs.Prelude.{ℕ, true, List, [], ◌∷◌, replicate, slice_index_or}
use Rattle.cluster_law.specs.Noted.{DiskAt, Setting}
use Rattle.volume.specs.Format.{root_inode}
use Rattle.volume.specs.Volume.{Volume}
use Rattle.volume_edit.specs.Edit.{first_slot, free_inode}

-- a volume without files
abbrev pub formatted : ℕ → Volume
formatted clients = record {
  clients = clients;
  free = replicate 2048 true;
  slots = replicate 16 first_slot;
  inodes = root_inode ∷ replicate 511 free_inode;
  directories = replicate 512 [];
}

-- the sectors of a disk whose gate is closed and on which the first two clients aren't marked as purged
pub record Sectors : Type 0 where
  pub head : List ℕ
  pub gate : List ℕ
  pub journal : List (List ℕ)
  pub map : List ℕ
  pub first : List ℕ
  pub second : List ℕ
  pub others : List (List ℕ)

abbrev pub at : Sectors → ℕ → List ℕ
at s n = slice_index_or s.journal n []

-- in order: the head, the gate, the journal, the map, the slots of two clients, and all others
abbrev pub in_order : Sectors → List (List ℕ)
in_order s =
    s.head ∷ (0 ∷ s.gate)
    ∷ at s 0 ∷ at s 1 ∷ at s 2 ∷ at s 3 ∷ at s 4 ∷ at s 5 ∷ at s 6 ∷ at s 7 ∷ at s 8 ∷ at s 9 ∷ at s 10 ∷ at s 11 ∷ at s 12 ∷ at s 13 ∷ at s 14 ∷ at s 15 ∷ at s 16
    ∷ s.map ∷ (0 ∷ s.first) ∷ (0 ∷ s.second) ∷ s.others

abbrev pub first_disk : Sectors → DiskAt
first_disk s = record { sectors = in_order s; key = 1; faults = 0 }

abbrev pub setting : ℕ → Sectors → Setting
setting clients s = record { first = first_disk s; volume = formatted clients; window = 4 }
