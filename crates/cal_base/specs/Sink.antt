use Rattle.std.specs.Prelude.{◌≡◌, ℕ, List, take, Option}
use Rattle.std.specs.Io.KnownBytes.{append_known}

-- what a sink holds has grown by a prefix of the piece
pub record TakesPrefix (old : Option (List ℕ)) (piece : List ℕ) (new : Option (List ℕ)) : Type 0 where
  pub taken : ℕ
  pub grown : new ≡ append_known old (take taken piece)
