use Rattle.std.specs.Prelude.{◌≡◌, ℕ, ◌<◌, ◌≤◌, List, length, take, Option}
use Rattle.std.specs.Io.KnownBytes.{prepend_known, IsAtEnd}

-- a read put the next `count` bytes into the front of the buffer; none, where there is room, is the end
pub record Reads (old new : Option (List ℕ)) (count : ℕ) (buffer : List ℕ) : Type 0 where
  pub within : count ≤ length buffer
  pub taken : old ≡ prepend_known (take count buffer) new
  pub ended : count ≡ 0 → 0 < length buffer → IsAtEnd new
