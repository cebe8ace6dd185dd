-- Numbers and bytes as a script writes them.
use Rattle.std.specs.Prelude.{ℕ, ◌+◌, ◌*◌, ◌-◌, ◌%◌, ◌==◌, ◌&&◌, ◌||◌, not, Bool, false, true, List, [], ◌∷◌, length, nat_lt, nat_le, if◌then◌else◌, Result, Ok, Err}
use Rattle.std.specs.List.{list_all}
use Rattle.script.specs.declared.bad_line.BadWhy.{BadWhy}
use Rattle.script.specs.declared.bad_line.BadWhy.TheVariants.{Number, Hex}

-- 0 to 9
abbrev pub is_digit : ℕ → Bool
is_digit byte = nat_le 48 byte && nat_le byte 57

-- `0`, or no 0 in front
abbrev pub is_plainly_begun : List ℕ → Bool
is_plainly_begun [] = false
is_plainly_begun (digit ∷ []) = true
is_plainly_begun (digit ∷ next ∷ digits) = not (digit == 48)

-- decimal digits without a leading 0
abbrev pub is_decimal : List ℕ → Bool
is_decimal word = list_all is_digit word && is_plainly_begun word

-- the number of these digits behind a number
abbrev pub value_behind : ℕ → List ℕ → ℕ
value_behind front [] = front
value_behind front (digit ∷ digits) = value_behind (front * 10 + (digit - 48)) digits

-- the number that decimal digits write
abbrev pub value_of : List ℕ → ℕ
value_of digits = value_behind 0 digits

-- a number from the least to the most
abbrev pub number_in : ℕ → ℕ → List ℕ → Result ℕ BadWhy
number_in least most word = if is_decimal word && nat_le least (value_of word) && nat_le (value_of word) most then Ok (value_of word) else Err Number

-- 0 to 9 and a to f
abbrev pub is_hex_digit : ℕ → Bool
is_hex_digit byte = is_digit byte || (nat_le 97 byte && nat_le byte 102)

-- the value of a hexadecimal digit
abbrev pub nibble : ℕ → ℕ
nibble digit = if nat_le digit 57 then digit - 48 else digit - 87

-- the bytes that pairs of hexadecimal digits write, the high half first
abbrev pub hex_bytes : List ℕ → List ℕ
hex_bytes [] = []
hex_bytes (high ∷ []) = []
hex_bytes (high ∷ low ∷ digits) = (nibble high * 16 + nibble low) ∷ hex_bytes digits

-- an even number of hexadecimal digits, for 1 to so many bytes
abbrev pub is_hex : ℕ → List ℕ → Bool
is_hex most word = list_all is_hex_digit word && (length word % 2 == 0) && nat_lt 0 (length word) && nat_le (length word) (2 * most)

-- 1 to so many bytes
abbrev pub hex_in : ℕ → List ℕ → Result (List ℕ) BadWhy
hex_in most word = if is_hex most word then Ok (hex_bytes word) else Err Hex

-- the one byte of two hexadecimal digits
abbrev pub byte_of : List ℕ → Result ℕ BadWhy
byte_of [] = Err Hex
byte_of (high ∷ []) = Err Hex
byte_of (high ∷ low ∷ []) = if is_hex_digit high && is_hex_digit low then Ok (nibble high * 16 + nibble low) else Err Hex
byte_of (high ∷ low ∷ other ∷ digits) = Err Hex
