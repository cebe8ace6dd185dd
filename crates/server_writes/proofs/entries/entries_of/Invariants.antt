use Rattle.std.proofs.Common.{◌≡◌, ℕ, take}
use Rattle.cluster_law.specs.ServerRules.{entries_of}
use Rattle.server_draft.specs.Acts.{acts_of}
use Rattle.server_writes.proofs.entries.entries_of.Given as goal

abbrev pub invariant-loop-act : goal.invariant-loop-act
invariant-loop-act l = (view : ℕ) → l.entries ≡ entries_of (acts_of view (take l.act-index l.acts))
