use Rattle.std.proofs.Common.{◌≡◌, ◌+◌, drop}
use Rattle.schedule.specs.Noted.{after_sent}
use Rattle.schedule.proofs.noting.note_sent.Given as goal

abbrev pub invariant-loop-packet : goal.invariant-loop-packet
invariant-loop-packet l = (l.number ≡ l.first + l.packet-index) × (after_sent l.links l.number (drop l.packet-index l.sent) ≡ after_sent l.fn.links l.first l.sent)
