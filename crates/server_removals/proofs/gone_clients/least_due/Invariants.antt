use Rattle.std.proofs.Common.{◌≡◌, ◌<◌, ◌&&◌, ℕ, false}
use Rattle.cluster_law.specs.ServerState.{is_present}
use Rattle.server_removals.specs.Removals.{gone_in}
use Rattle.server_removals.proofs.gone_clients.least_due.Given as goal

abbrev pub invariant-loop-number : goal.invariant-loop-number
invariant-loop-number l = (k : ℕ) → k < l.number → (gone_in l.members (record { 0 = k }) && is_present l.image (record { 0 = k })) ≡ false
