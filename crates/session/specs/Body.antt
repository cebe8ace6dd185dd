use Rattle.std.specs.Prelude.{ℕ, List, [], Option, Some, None}
use Rattle.std.specs.Arc.{arc_value}
use Rattle.std.specs.declared.sync.Arc.{Arc}
use Rattle.std.specs.declared.alloc.Global.{Global}

-- the bytes that are shared, none where nothing is
abbrev pub shared_bytes : Option (Arc (List ℕ) Global) → List ℕ
shared_bytes None = []
shared_bytes (Some bytes) = arc_value bytes
