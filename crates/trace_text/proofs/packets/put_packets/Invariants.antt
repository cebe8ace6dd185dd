use Rattle.std.proofs.Common.{◌≡◌, ◌+◌, ◌++◌, drop}
use Rattle.trace_text.specs.Packets.{packets_text}
use Rattle.trace_text.proofs.packets.put_packets.Given as goal

abbrev pub invariant-loop-packet : goal.invariant-loop-packet
invariant-loop-packet l = (l.text.items ++ packets_text l.number (drop l.packet-index l.packets) ≡ l.fn.text.items ++ packets_text l.fn.first l.packets) × (l.number ≡ l.fn.first + l.packet-index)
