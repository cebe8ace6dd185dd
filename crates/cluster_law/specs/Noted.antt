-- A trace: the printed steps with what stands beside them, newest first.
use Rattle.std.specs.Prelude.{ℕ, Bool, Option, List, [], ◌∷◌, ◌++◌, is_some}
use Rattle.tree_law.specs.declared.entry.Entry.{Entry}
use Rattle.volume.specs.Volume.{Volume}
use Rattle.cluster_law.specs.declared.step.TraceStep.{TraceStep}
use Rattle.cluster_law.specs.Lanes.{Act}

-- the disk at a moment
pub record DiskAt : Type 0 where
  pub sectors : List (List ℕ)
  pub key : ℕ
  pub faults : ℕ

-- a printed step; what the node did in it, newest first (of a step that halts, what it had planned); the
-- disk after it; and the entry of which it isn't known yet whether it stands
pub record Noted : Type 0 where
  pub step : TraceStep
  pub acts : List Act
  pub disk : DiskAt
  pub held : Option Entry

-- a cluster as the format left it: the disk, the volume that it spells, and how many clients a server asks for
-- their holds at a time
pub record Setting : Type 0 where
  pub first : DiskAt
  pub volume : Volume
  pub window : ℕ

-- the printed steps, in order
unfoldable pub steps_of : List Noted → List TraceStep
steps_of [] = []
steps_of (s ∷ earlier) = steps_of earlier ++ s.step ∷ []

abbrev pub halts : Noted → Bool
halts s = is_some s.step.halt

-- the disk before the next step
abbrev pub disk_now : Setting → List Noted → DiskAt
disk_now w [] = w.first
disk_now w (s ∷ earlier) = s.disk
