-- What was taken of a source.
use Rattle.std.specs.Prelude.{◌≡◌, ◌≤◌, ℕ, List, Option}
use Rattle.std.specs.Io.KnownBytes.{prepend_known}
use Rattle.cal_base.specs.Faults.{Rose}

-- what a source has left, where it tells it, and how often it has failed
pub record Left : Type 0 where
  pub left : Option (List ℕ)
  pub faults : ℕ

-- these bytes were taken
pub record IsTaken (old : Left) (bytes : List ℕ) (now : Left) : Type 0 where
  pub taken : old.left ≡ prepend_known bytes now.left
  pub later : old.faults ≤ now.faults

-- the source failed; some bytes were taken before
pub record IsFailed (old now : Left) : Type 0 where
  pub bytes : List ℕ
  pub read : IsTaken old bytes now
  pub rose : Rose old.faults now.faults
