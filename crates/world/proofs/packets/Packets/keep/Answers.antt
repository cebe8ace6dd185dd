use Rattle.std.proofs.Common.{append-nil, sym}
use Rattle.world.proofs.Keeping.{flags_more, sent_more}
use Rattle.world.proofs.packets.Packets.keep.Goals as goal

pub loop-packet-init : goal.loop-packet-init
loop-packet-init c = record { sent = sym (append-nil _); delivered = sym (append-nil _); even = λ e. e }

pub loop-packet-preserved : goal.loop-packet-preserved
loop-packet-preserved c = record {
  sent = sent_more _ _ _ c.args.packets.now c.loop-packet.packet-index c.packet-item.result _ c.loop-packet-test.true c.packet-item.is c.in_ok-copy.ensures c.loop-packet.invariant.sent c.in_ok-keep_one.ensures.sent;
  delivered = flags_more _ _ _ c.loop-packet.packet-index c.loop-packet.invariant.delivered c.in_ok-keep_one.ensures.delivered;
  even = λ e. c.in_ok-keep_one.ensures.even (c.loop-packet.invariant.even e);
}
