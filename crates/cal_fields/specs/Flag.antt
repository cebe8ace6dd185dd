use Rattle.std.specs.Prelude.{ℕ, Bool, if◌then◌else◌}

-- a yes or no in a byte: 1 or 0
abbrev pub bool_byte : Bool → ℕ
bool_byte b = if b then 1 else 0
