use Rattle.std.proofs.Common.{◌≡◌, ◌++◌, drop}
use Rattle.trace_text.specs.Entries.{entries_text}
use Rattle.trace_text.proofs.entries.put_entries.Given as goal

abbrev pub invariant-loop-entry : goal.invariant-loop-entry
invariant-loop-entry l = l.text.items ++ entries_text (drop l.entry-index l.entries) ≡ l.fn.text.items ++ entries_text l.entries
