use Rattle.std.proofs.Common.{◌≡◌, ◌+◌, take}
use Rattle.session.specs.Session.{numbered, packets_from, queued}
use Rattle.session.proofs.session.Session.opened.Given as goal

abbrev pub invariant-loop-place : goal.invariant-loop-place
invariant-loop-place l = l.opened ≡ packets_from l.self l.taken (numbered l.self + 1) (take l.place (queued l.self))
