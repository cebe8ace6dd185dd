-- Reading a message field by field, from the left.
use Rattle.std.specs.Prelude.{◌-◌, ◌∷◌, [], ℕ, zero, suc, List, Option, Some, None, Result, Ok, Err, length, take, drop, nat_lt, if◌then◌else◌}
use Rattle.byteorder.specs.Endian.{big_number}

-- A field at the front is a value and the bytes behind it. A fault is told by how many bytes stand
-- from the first byte of the wrong field to the end: none where bytes are missing.
abbrev pub Read : Type 0 → Type 0
Read A = Result (A × List ℕ) ℕ

-- a field, and what stands behind it
infixl 10 ◌>>=◌
abbrev pub ◌>>=◌ : {A B : Type 0} → Read A → (A × List ℕ → Result B ℕ) → Result B ℕ
(Ok x) >>= f = f x
(Err left) >>= f = Err left

-- one byte
unfoldable pub byte_at : List ℕ → Read ℕ
byte_at [] = Err 0
byte_at (byte ∷ rest) = Ok (byte, rest)

-- a number of so many bytes, the highest first
unfoldable pub number_at : ℕ → List ℕ → Read ℕ
number_at width bytes = if nat_lt (length bytes) width then Err 0 else Ok (big_number width bytes, drop width bytes)

-- so many bytes
unfoldable pub take_at : ℕ → List ℕ → Read (List ℕ)
take_at count bytes = if nat_lt (length bytes) count then Err 0 else Ok (take count bytes, drop count bytes)

-- what a field means, or a fault at that field where it means nothing
abbrev pub meant : {A : Type 0} → List ℕ → Option A → List ℕ → Read A
meant field None rest = Err (length field)
meant field (Some value) rest = Ok (value, rest)

-- a field of one byte, by what each byte means
abbrev pub byte_field : {A : Type 0} → (ℕ → Option A) → List ℕ → Read A
byte_field meaning bytes = byte_at bytes >>= λ x. meant bytes (meaning x.0) x.1

-- a field of so many bytes, by what each number means
abbrev pub number_field : {A : Type 0} → ℕ → (ℕ → Option A) → List ℕ → Read A
number_field width meaning bytes = number_at width bytes >>= λ x. meant bytes (meaning x.0) x.1

-- so many items, each read in view of what came before it
unfoldable pub many_at : {A S : Type 0} → (S → List ℕ → Read A) → (A → S) → ℕ → S → List ℕ → Read (List A)
many_at item seen zero before bytes = Ok ([], bytes)
many_at item seen (suc count) before bytes =
    item before bytes >>= λ x. many_at item seen count (seen x.0) x.1 >>= λ xs. Ok (x.0 ∷ xs.0, xs.1)

-- so many items, each read alike
abbrev pub alike_at : {A : Type 0} → (List ℕ → Read A) → ℕ → List ℕ → Read (List A)
alike_at item count bytes = many_at {S = Unit {0}} (λ before. item) (λ x. tt) count tt bytes

-- all of the bytes, or the place of the fault
abbrev pub placed : {A : Type 0} → List ℕ → Read A → Result A ℕ
placed bytes (Err left) = Err (length bytes - left)
placed bytes (Ok (value, [])) = Ok value
placed bytes (Ok (value, byte ∷ rest)) = Err (length bytes - length (byte ∷ rest))
