use Rattle.std.proofs.Common.{◌≡◌, replicate}
use Rattle.history_check.specs.Judging.{no_call}
use Rattle.history_check.proofs.judge.first_standings.Given as goal

abbrev pub invariant-loop-i : goal.invariant-loop-i
invariant-loop-i l = l.standings.items ≡ replicate l._i no_call
