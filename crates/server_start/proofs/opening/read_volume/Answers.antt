use Rattle.std.proofs.Common.{Some, sym, ap, subst, ◌∙◌}
use Rattle.cluster_law.specs.declared.step.Halt.{Halt}
use Rattle.server_start.specs.Disks.{StandsSo}
use Rattle.server_start.specs.Halting.{mount_halt, replay_halt}
use Rattle.server_start.specs.Opening.{IsReplayed}
use Rattle.server_start.proofs.Replaying.{replay-halts, replays-all, same-view}
use Rattle.server_start.proofs.Mounting.{mounts, not-mounted}
use Rattle.server_start.proofs.opening.read_volume.Goals as goal

pub returns-in-Err-clause-ends : goal.returns-in-Err-clause-ends
returns-in-Err-clause-ends g c = λ stop before is whole own ready.
    let replay = c.in-Err.ensures in
    subst (λ (h : Halt). StandsSo (g.D.PortDisk.means c.replay.new.disk) (g.D.PortDisk.fault_count c.replay.new.disk) (IsReplayed c.args.port.now.view stop before c.replay.new.port.kept.writes (Some h)))
    (sym (c.of_replay.ensures ∙ ap (replay_halt c.in-Err.halt) c.faults.ensures))
    (replay-halts stop before c.args.port.now (g.D.PortDisk.means c.args.disk.now) _ c.in-Err.halt c.replay.new.port _ _ is whole own ready replay.replays replay.keeps)

pub returns-in-Err-mount-clause-ends : goal.returns-in-Err-mount-clause-ends
returns-in-Err-mount-clause-ends g c = λ stop before is whole own ready.
    let replay = c.in-Ok.ensures in
    let mount = c.in-Err-mount.ensures in
    let all = replays-all stop before c.args.port.now (g.D.PortDisk.means c.args.disk.now) _ c.replay.new.port (g.D.PortDisk.means c.replay.new.disk) _ is whole ready replay.replays replay.keeps in
    subst (λ (h : Halt). StandsSo (g.D.PortDisk.means c.mount.new.disk) (g.D.PortDisk.fault_count c.mount.new.disk) (IsReplayed c.args.port.now.view stop before c.replay.new.port.kept.writes (Some h)))
    (sym (c.of_mount.ensures ∙ ap (mount_halt c.in-Err-mount.halt) c.faults-in-Err-mount.ensures))
    (not-mounted stop before c.args.port.now c.replay.new.port _ _ c.in-Err-mount.halt _ _ own all mount.reads mount.never)

pub returns-in-Ok-mount-clause-view : goal.returns-in-Ok-mount-clause-view
returns-in-Ok-mount-clause-view g c = same-view c.args.port.now (g.D.PortDisk.means c.args.disk.now) _ c.replay.new.port _ _ c.in-Ok.ensures.replays

pub returns-in-Ok-mount-clause-ends : goal.returns-in-Ok-mount-clause-ends
returns-in-Ok-mount-clause-ends g c = λ stop before is whole own ready.
    let replay = c.in-Ok.ensures in
    let mount = c.in-Ok-mount.ensures in
    let all = replays-all stop before c.args.port.now (g.D.PortDisk.means c.args.disk.now) _ c.replay.new.port (g.D.PortDisk.means c.replay.new.disk) _ is whole ready replay.replays replay.keeps in
    mounts stop before c.args.port.now c.replay.new.port (g.D.PortDisk.means c.replay.new.disk) _ c.mount.new.image _ _ own all mount.reads mount.ok mount.volume
