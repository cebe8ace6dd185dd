use Rattle.std.proofs.Common.{◌≡◌, ◌++◌, false, length, replicate, take}
use Rattle.world.proofs.packets.Packets.keep.Given as goal

abbrev pub invariant-loop-packet : goal.invariant-loop-packet
invariant-loop-packet l = record {
  sent : l.self.sent.items ≡ l.fn.self.sent.items ++ take l.packet-index l.packets;
  delivered : l.self.delivered.items ≡ l.fn.self.delivered.items ++ replicate l.packet-index false;
  even : length l.fn.self.delivered.items ≡ length l.fn.self.sent.items → length l.self.delivered.items ≡ length l.self.sent.items;
}
