use Rattle.std.proofs.Common.{◌∙◌, sym, ap}
use Rattle.shared_disk.specs.Disk.{Disk}
use Rattle.journal.specs.Layout.{opens}
use Rattle.journal.proofs.Replaying.{replays_from, replays_shut, sector_is}
use Rattle.journal.proofs.replays.replay_journal.Goals as goal

pub returns-then-not-is_open : goal.returns-then-not-is_open
returns-then-not-is_open g c =
    let read = c.in_ok-read.ensures in
    replays_shut _ _ _ _ _ _ read.reads.0 read.reads.1 (sym c.is_open.ensures ∙ c.if-not-is_open.true) read.same read.later

pub replay_open-requires-clause-open : goal.replay_open-requires-clause-open
replay_open-requires-clause-open g c = λ s t.
    let read = c.in_ok-read.ensures in
    ap opens (sector_is (g.D.PortDisk.means c.args.disk.now) 1 _ read.reads.1 s (sym (ap (λ (d : Disk). d.sectors) read.same) ∙ t)) ∙ sym c.is_open.ensures ∙ c.if-not-is_open.false

pub returns : goal.returns
returns g c =
    let read = c.in_ok-read.ensures in
    replays_from _ _ _ _ _ _ _ _ _ read.same read.later c.replay_open.ensures
