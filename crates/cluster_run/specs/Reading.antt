-- Reading a source to its end.
use Rattle.std.specs.Prelude.{◌≡◌, ◌⊎◌, ◌+◌, ◌≤◌, ◌++◌, ℕ, List, length}
use Rattle.std.specs.Io.KnownBytes.{IsAtEnd}
use Rattle.cal_base.specs.Faults.{Rose}
use Rattle.cal_base.specs.Limits as limits
use Rattle.run_status.specs.Taking.{Left, IsTaken, IsFailed}
use Rattle.cluster_run.specs.declared.reading.ReadError.{ReadError}
use Rattle.cluster_run.specs.declared.reading.ReadError.TheVariants.{ReadFault, OutOfMemory}

-- all bytes were taken, or 67,108,865 of them
pub record IsReadAll (old : Left) (bytes : List ℕ) (now : Left) : Type 0 where
  pub read : IsTaken old bytes now
  pub ended : IsAtEnd now.left ⊎ (length bytes ≡ limits.script_bytes + 1)

abbrev pub WhyUnread : Left → Left → ReadError → Type 0
WhyUnread old now ReadFault = IsFailed old now
WhyUnread old now OutOfMemory = old.faults ≤ now.faults

-- a piece of so many bytes was put behind those that were read; none is the end
pub record IsPiece (old : Left) (bytes longer : List ℕ) (now : Left) (count : ℕ) : Type 0 where
  pub piece : List ℕ
  pub long : length piece ≡ count
  pub behind : longer ≡ bytes ++ piece
  pub read : IsTaken old piece now
  pub ended : count ≡ 0 → IsAtEnd now.left
  pub few : length longer ≤ limits.script_bytes + 1

abbrev pub IsNoPiece : Left → Left → ReadError → Type 0
IsNoPiece old now ReadFault = (now.left ≡ old.left) × Rose old.faults now.faults × (old.faults ≤ now.faults)
IsNoPiece old now OutOfMemory = old.faults ≤ now.faults
