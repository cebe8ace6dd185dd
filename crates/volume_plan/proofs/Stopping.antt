-- Where a stop ends writes to free blocks, those that were made go to free blocks.
use Rattle.std.proofs.Common.{ℕ, zero, suc, List, [], ◌∷◌, Option, Some, None}
use Rattle.shared_disk.specs.Sectors.{left_of}
use Rattle.volume.specs.Volume.{Volume}
use Rattle.volume_edit.specs.Blocks.{GoToFree}

pub stopped_to_free : (v : Volume) (writes : List (ℕ × List ℕ)) (made : ℕ) (torn : Option (List ℕ)) → GoToFree v writes → GoToFree v (left_of writes made torn)
stopped_to_free v [] made torn free = tt
stopped_to_free v (w ∷ ws) zero None free = tt
stopped_to_free v (w ∷ ws) zero (Some t) free = (free.0, tt)
stopped_to_free v (w ∷ ws) (suc made) torn free = (free.0, stopped_to_free v ws made torn free.1)
