use Rattle.server_start.proofs.Formatting.{all-written, no-memory, not-fenced, not-written, same-view, with-room}
use Rattle.server_start.proofs.formats.format_volume.Goals as goal

pub returns-in_err-reserve-clause-disk : goal.returns-in_err-reserve-clause-disk
returns-in_err-reserve-clause-disk g c =
    let room = c.in_err-reserve.ensures in
    no-memory c.args.clients _ _ c.from_residual-in_err-reserve.result _ _ c.from_residual-in_err-reserve.ensures.1 room.oom room.faults

pub returns-in-Err-clause-disk : goal.returns-in-Err-clause-disk
returns-in-Err-clause-disk g c =
    let room = c.in_ok-reserve.ensures in
    let take = c.in-Err.ensures in
    with-room c.args.clients _ _ _ (g.D.PortDisk.means c.reserve.new.self) _ _ _ room.same room.keeps room.faults
    (not-fenced c.args.clients (g.D.PortDisk.means c.reserve.new.self) _ c.in-Err.refusal c.from.result _ _ c.from.ensures take.takes take.counted)

pub returns-in-Err-mkfs-clause-disk : goal.returns-in-Err-mkfs-clause-disk
returns-in-Err-mkfs-clause-disk g c =
    let room = c.in_ok-reserve.ensures in
    let take = c.in-Ok.ensures in
    with-room c.args.clients _ _ _ (g.D.PortDisk.means c.reserve.new.self) _ _ _ room.same room.keeps room.faults
    (not-written c.args.clients (g.D.PortDisk.means c.reserve.new.self) (g.D.PortDisk.means c.take.new.disk) _ _ c.in-Ok.port c.mkfs.new.port c.in-Err-mkfs.halt _ _ take.takes take.later c.in-Err-mkfs.ensures.runs)

pub returns-clause-serves : goal.returns-clause-serves
returns-clause-serves g c = record {
  view = same-view c.args.clients (g.D.PortDisk.means c.reserve.new.self) (g.D.PortDisk.means c.take.new.disk) _ c.in-Ok.port c.mkfs.new.port _ _ c.in-Ok.ensures.takes c.in-Ok-mkfs.ensures.runs;
  image = c.in-Ok-mkfs.ensures.image;
  desk = c.in_ok-image.ensures.desk;
  mail = c.in_ok-image.ensures.mail;
}

pub returns-clause-disk : goal.returns-clause-disk
returns-clause-disk g c =
    let room = c.in_ok-reserve.ensures in
    let take = c.in-Ok.ensures in
    with-room c.args.clients _ _ _ (g.D.PortDisk.means c.reserve.new.self) _ _ _ room.same room.keeps room.faults
    (all-written c.args.clients (g.D.PortDisk.means c.reserve.new.self) (g.D.PortDisk.means c.take.new.disk) _ _ c.in-Ok.port
    (record { port = c.mkfs.new.port; desk = c.in_ok-image.field-0.desk; image = c.mkfs.new.image; mail = c.in_ok-image.field-0.mail }) _ _ take.takes take.later c.in-Ok-mkfs.ensures.runs)
