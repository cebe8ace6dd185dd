-- Whether bytes are a name, as a test.
use Rattle.std.specs.Prelude.{◌==◌, ◌&&◌, ◌∷◌, [], not, ℕ, Bool, List, length, nat_le}
use Rattle.std.specs.List.{list_all}
use Rattle.std.specs.Str.{bytes_eq}

-- a graphic byte of ASCII other than '/'
abbrev pub is_name_byte : ℕ → Bool
is_name_byte byte = nat_le 33 byte && nat_le byte 126 && not (byte == 47)

-- 1 to 27 such bytes, and neither "." nor ".."
unfoldable pub is_name : List ℕ → Bool
is_name name = nat_le 1 (length name) && nat_le (length name) 27 && list_all is_name_byte name && not (bytes_eq name (46 ∷ [])) && not (bytes_eq name (46 ∷ 46 ∷ []))
