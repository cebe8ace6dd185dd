use Rattle.std.proofs.Common.{◌≡◌, ◌++◌, drop}
use Rattle.trace_text.specs.Sectors.{writes_text}
use Rattle.trace_text.proofs.sectors.put_writes.Given as goal

abbrev pub invariant-loop-write : goal.invariant-loop-write
invariant-loop-write l = l.text.items ++ writes_text (drop l.write-index l.writes) ≡ l.fn.text.items ++ writes_text l.writes
