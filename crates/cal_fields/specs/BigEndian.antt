use Rattle.std.specs.Prelude.{ℕ, zero, suc, ◌/◌, ◌%◌, ◌^◌, List, [], ◌∷◌}

-- the last `width` digits of a number to the base 256, the highest first
unfoldable pub big_endian : ℕ → ℕ → List ℕ
big_endian zero number = []
big_endian (suc width) number = number / 256 ^ width % 256 ∷ big_endian width number
