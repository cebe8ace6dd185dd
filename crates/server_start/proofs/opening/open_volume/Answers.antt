use Rattle.std.proofs.Common.{arith, ap, sym, ◌∙◌}
use Rattle.server_start.specs.Halting.{refusal_halt}
use Rattle.server_start.proofs.Fencing.{halts, no-higher, not-taken, opens, ready, ready-view, room-left, taken-at, with-key}
use Rattle.server_start.proofs.opening.open_volume.Goals as goal

pub returns-in-Err-clause-ends : goal.returns-in-Err-clause-ends
returns-in-Err-clause-ends g c = λ before is whole.
    let take = c.in-Err.ensures in
    not-taken c.args.view.0 c.args.stop before (g.D.PortDisk.means c.args.disk.now) _ c.in-Err.refusal (record { writes = c.new.result; entries = c.new-in-Err.result; halt = c.of_refusal.result }) (g.D.PortDisk.means c.take.new.disk) _
    is take.takes take.counted take.later c.new.ensures c.new-in-Err.ensures (c.of_refusal.ensures ∙ ap (refusal_halt c.in-Err.refusal) c.faults.ensures)

pub read_volume-read-requires : goal.read_volume-read-requires
read_volume-read-requires g c = record { room = room-left c.args.view.0 (g.D.PortDisk.means c.args.disk.now) _ c.in-Ok.port c.in-Ok.ensures.takes c.requires.room }

pub returns-in-Ok-read-clause-port : goal.returns-in-Ok-read-clause-port
returns-in-Ok-read-clause-port g c =
    let take = c.in-Ok.ensures in
    c.take_kept-writes.ensures.view ∙ c.in-Ok-read.ensures.view
    ∙ ready-view c.args.view.0 c.args.stop (g.D.PortDisk.means c.args.disk.now) _ c.in-Ok.port c.arm.new.self c.keep.new.self _ take.takes c.arm.ensures c.keep.ensures

pub returns-in-Ok-read-clause-ends : goal.returns-in-Ok-read-clause-ends
returns-in-Ok-read-clause-ends g c = λ before is whole.
    let take = c.in-Ok.ensures in
    let now = taken-at c.args.view.0 before (g.D.PortDisk.means c.args.disk.now) _ c.in-Ok.port (g.D.PortDisk.means c.take.new.disk) _ is take.takes in
    let view = ready-view c.args.view.0 c.args.stop (g.D.PortDisk.means c.args.disk.now) _ c.in-Ok.port c.arm.new.self c.keep.new.self _ take.takes c.arm.ensures c.keep.ensures in
    let port = ready c.args.stop c.in-Ok.port c.arm.new.self c.keep.new.self _ _ c.arm.ensures c.keep.ensures c.requires.empty c.requires.space in
    let faults = is.faults_are in
    let later = take.later in
    opens c.args.view.0 c.keep.new.self.view c.args.stop before _ _ (record { port = c.take_kept-writes.new.port; writes = c.take_kept-writes.result }) c.read_volume-read.new.image _ _ view
    (no-higher c.args.view.0 before (g.D.PortDisk.means c.args.disk.now) _ c.in-Ok.port (g.D.PortDisk.means c.take.new.disk) is take.takes) (omega (arith, faults, later))
    (c.take_kept-writes.ensures.view ∙ c.in-Ok-read.ensures.view) c.take_kept-writes.ensures.writes
    (c.in-Ok-read.ensures.ends c.args.stop (with-key before c.args.view.0 _) now whole (sym view) port)

pub returns-in-Err-read-clause-ends : goal.returns-in-Err-read-clause-ends
returns-in-Err-read-clause-ends g c = λ before is whole.
    let take = c.in-Ok.ensures in
    let now = taken-at c.args.view.0 before (g.D.PortDisk.means c.args.disk.now) _ c.in-Ok.port (g.D.PortDisk.means c.take.new.disk) _ is take.takes in
    let view = ready-view c.args.view.0 c.args.stop (g.D.PortDisk.means c.args.disk.now) _ c.in-Ok.port c.arm.new.self c.keep.new.self _ take.takes c.arm.ensures c.keep.ensures in
    let port = ready c.args.stop c.in-Ok.port c.arm.new.self c.keep.new.self _ _ c.arm.ensures c.keep.ensures c.requires.empty c.requires.space in
    let faults = is.faults_are in
    let later = take.later in
    halts c.args.view.0 c.keep.new.self.view c.args.stop before _ _ (record { writes = c.take_kept-writes.result; entries = c.new-in-Err-read.result; halt = c.in-Err-read.halt }) _ _ view
    (no-higher c.args.view.0 before (g.D.PortDisk.means c.args.disk.now) _ c.in-Ok.port (g.D.PortDisk.means c.take.new.disk) is take.takes) (omega (arith, faults, later))
    c.take_kept-writes.ensures.writes c.new-in-Err-read.ensures
    (c.in-Err-read.ensures.ends c.args.stop (with-key before c.args.view.0 _) now whole (sym view) port)
