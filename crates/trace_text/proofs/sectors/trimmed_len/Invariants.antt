use Rattle.std.proofs.Common.{◌≡◌, ◌≤◌, take, length}
use Rattle.trace_text.specs.Sectors.{trimmed}
use Rattle.trace_text.proofs.sectors.trimmed_len.Given as goal

abbrev pub invariant-loop-count : goal.invariant-loop-count
invariant-loop-count l = (l.count ≤ length l.bytes) × (trimmed (take l.count l.bytes) ≡ trimmed l.bytes)

abbrev pub decreases-loop-count : goal.decreases-loop-count
decreases-loop-count l = l.count
