use Rattle.std.specs.Prelude.{◌+◌, ◌-◌, ◌/◌, ℕ}
use Rattle.cal_base.specs.Limits.{block_size}

-- how many blocks hold so many bytes
abbrev pub block_count : ℕ → ℕ
block_count size = (size + (block_size - 1)) / block_size
