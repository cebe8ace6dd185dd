use Rattle.std.proofs.Common.{◌≡◌, ◌++◌, take}
use Rattle.revocation.specs.Waiting.{own_blockers}
use Rattle.revocation.proofs.line.Line.put_own.Given as goal

abbrev pub invariant-loop-need : goal.invariant-loop-need
invariant-loop-need l = l.out ≡ l.initial.out ++ own_blockers l.self.asked l.c (take l.need-index l.needs)
