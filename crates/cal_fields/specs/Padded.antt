use Rattle.std.specs.Prelude.{ℕ, ◌-◌, ◌++◌, List, length, replicate}

-- so many bytes of zero
unfoldable pub zeros : ℕ → List ℕ
zeros count = replicate count 0

-- so many bytes, with these at the front and zeros behind them
unfoldable pub padded : ℕ → List ℕ → List ℕ
padded size front = front ++ zeros (size - length front)
