use Rattle.std.proofs.Common.{◌≡◌, filter, not, take}
use Rattle.cluster_law.specs.Blocking.{is_shown}
use Rattle.server_line.proofs.needing.lacking_of.Given as goal

abbrev pub invariant-loop-need : goal.invariant-loop-need
invariant-loop-need l = l.lacking ≡ filter (λ need. not (is_shown l.table l.client need)) (take l.need-index l.needs)
