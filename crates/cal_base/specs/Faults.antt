use Rattle.std.specs.Prelude.{ℕ, ◌+◌, ◌-◌, ◌^◌, ◌≤◌, min, List}
use Rattle.cal_base.specs.Memory.{Memory}

-- a count that goes up by one, and at the last u64 stays there
abbrev pub counted_up : ℕ → ℕ
counted_up count = min (count + 1) (2 ^ 64 - 1)

-- a count of faults rose; a count that stands at the last u64 counts as risen
abbrev pub Rose : ℕ → ℕ → Type 0
Rose before now = counted_up before ≤ now

-- a source with listed faults: the bytes left, the numbers of the calls that fail, the calls and the faults so far
pub record FaultyRest : Type 0 where
  pub left : List ℕ
  pub fails : List ℕ
  pub calls : ℕ
  pub faults : ℕ

-- a sink with listed faults: what it holds, the numbers of the writes that fail, the writes and the faults so far
pub record FaultyMemory : Type 0 where
  pub memory : Memory
  pub fails : List ℕ
  pub calls : ℕ
  pub faults : ℕ
