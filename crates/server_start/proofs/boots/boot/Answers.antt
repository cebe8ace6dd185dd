use Rattle.std.proofs.Common.{None, refl}
use Rattle.server_start.proofs.Serving.{begins, ends-early, halt-apart, roomy-at, served-apart, serves}
use Rattle.server_start.proofs.boots.boot.Goals as goal

pub returns-in_err-image-clause-ends : goal.returns-in_err-image-clause-ends
returns-in_err-image-clause-ends g c = λ before is whole. ends-early c.args.id c.args.view c.args.window c.args.stop before c.from_residual.result _ _ c.from_residual.ensures.1 is

pub returns-in_err-image-clause-oom : goal.returns-in_err-image-clause-oom
returns-in_err-image-clause-oom g c = λ e. record { same = refl; faults_same = refl }

pub returns-in_err-reserve-clause-ends : goal.returns-in_err-reserve-clause-ends
returns-in_err-reserve-clause-ends g c = λ before is whole.
    let room = c.in_err-reserve.ensures in
    ends-early c.args.id c.args.view c.args.window c.args.stop before c.from_residual-in_err-reserve.result _ _ c.from_residual-in_err-reserve.ensures.1
    (roomy-at (g.D.PortDisk.means c.args.disk.now) (g.D.PortDisk.means c.reserve.new.self) _ _ before room.same room.faults is)

pub returns-in_err-reserve-clause-oom : goal.returns-in_err-reserve-clause-oom
returns-in_err-reserve-clause-oom g c = λ e. record { same = c.in_err-reserve.ensures.same; faults_same = c.in_err-reserve.ensures.faults }

pub open_volume-requires-clause-empty : goal.open_volume-requires-clause-empty
open_volume-requires-clause-empty g c = c.in_ok-image.ensures.empty

pub open_volume-requires-clause-space : goal.open_volume-requires-clause-space
open_volume-requires-clause-space g c = c.in_ok-image.ensures.space

pub returns-in-Err-clause-ends : goal.returns-in-Err-clause-ends
returns-in-Err-clause-ends g c = λ before is whole.
    let room = c.in_ok-reserve.ensures in
    c.in-Err.ensures.ends before (roomy-at (g.D.PortDisk.means c.args.disk.now) (g.D.PortDisk.means c.reserve.new.self) _ _ before room.same room.faults is) whole

pub returns-in-Err-clause-oom : goal.returns-in-Err-clause-oom
returns-in-Err-clause-oom g c = λ e. halt-apart _ c.in-Err.halted e

pub returns-clause-begins : goal.returns-clause-begins
returns-clause-begins g c =
    begins c.args.id c.args.view
    (record { port = c.in-Ok.opened.port; desk = c.ask_clients.new.desk; image = c.open_volume.new.image; mail = c.take_sent-sent.new.self })
    c.args.window c.in_ok-image.field-0.desk c.list_present.new.desk c.of_asked-mail.result _
    c.in-Ok.ensures.port c.in_ok-image.ensures.desk c.list_present.ensures c.ask_clients.ensures.requests
    (c.of_asked-mail.ensures c.args.id c.args.view c.in_ok-image.ensures.asking c.in_ok-image.ensures.fresh) c.take_sent-sent.ensures.state

pub returns-clause-ends : goal.returns-clause-ends
returns-clause-ends g c = λ before is whole.
    let room = c.in_ok-reserve.ensures in
    serves c.args.id c.args.view c.args.window c.args.stop before c.in-Ok.opened
    (record { port = c.in-Ok.opened.port; desk = c.ask_clients.new.desk; image = c.open_volume.new.image; mail = c.take_sent-sent.new.self })
    (record { sent = c.take_sent-sent.result; writes = c.in-Ok.opened.writes; entries = c.new.result; head = None })
    c.in_ok-image.field-0.desk c.list_present.new.desk c.of_asked-mail.result _ _
    (c.in-Ok.ensures.ends before (roomy-at (g.D.PortDisk.means c.args.disk.now) (g.D.PortDisk.means c.reserve.new.self) _ _ before room.same room.faults is) whole)
    refl refl c.in_ok-image.ensures.desk c.list_present.ensures c.ask_clients.ensures.asked c.ask_clients.ensures.asks
    (c.of_asked-mail.ensures c.args.id c.args.view c.in_ok-image.ensures.asking c.in_ok-image.ensures.fresh) c.take_sent-sent.ensures.state c.take_sent-sent.ensures.packets c.new.ensures refl

pub returns-clause-oom : goal.returns-clause-oom
returns-clause-oom g c = λ e. served-apart _ _ e
