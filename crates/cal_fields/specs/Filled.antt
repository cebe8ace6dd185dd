use Rattle.std.specs.Prelude.{◌≡◌, ◌≤◌, ℕ, List, take}
use Rattle.cal_base.specs.Limits.{block_size}
use Rattle.cal_fields.specs.Padded.{padded}

-- so many bytes of a sector are filled, and zeros stand behind them
pub record IsFilled (sector : List ℕ) (filled : ℕ) : Type 0 where
  pub within : filled ≤ block_size
  pub behind : sector ≡ padded block_size (take filled sector)
