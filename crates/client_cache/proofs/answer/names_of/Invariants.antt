use Rattle.std.proofs.Common.{◌≡◌, map, take}
use Rattle.client_cache.proofs.answer.names_of.Given as goal

abbrev pub invariant-loop-entry : goal.invariant-loop-entry
invariant-loop-entry l = l.names ≡ map (λ entry. entry.name) (take l.entry-index l.entries)
