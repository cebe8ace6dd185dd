use Rattle.std.specs.Prelude.{ℕ, List}

-- what a sink in memory holds, and how many bytes more it takes without asking for memory
pub record Memory : Type 0 where
  pub bytes : List ℕ
  pub room : ℕ
