use Rattle.std.proofs.Common.{◌∙◌, refl, sym}
use Rattle.journal.proofs.Replaying.{replays_from, replays_damaged, replays_all, replays_passed, attempts_from, tries}
use Rattle.journal.proofs.replays.replay_open.Goals as goal

pub returns-then-not-is_good : goal.returns-then-not-is_good
returns-then-not-is_good g c =
    let read = c.in_ok-read.ensures in
    replays_damaged _ _ _ _ _ _ read.reads.0 read.reads.1 c.requires.open (sym c.is_good.ensures ∙ c.if-not-is_good.true) read.same read.later

pub returns-in_err-write_back : goal.returns-in_err-write_back
returns-in_err-write_back g c =
    let read = c.in_ok-read.ensures in
    let all = attempts_from (tries c.read.new.into) 17 _ (g.D.PortDisk.means c.args.disk.now) _ _ _ _ _ _ read.same c.in_err-write_back.ensures in
    replays_from _ (g.D.PortDisk.means c.args.disk.now) _ (g.D.PortDisk.means c.args.disk.now) _ _ _ _ _ refl read.later
    (replays_passed c.in_err-write_back.field-0.0 c.read.new.into _ _ _ c.from_residual-in_err-write_back.result _ _ _ read.reads.0 read.reads.1 c.requires.open all c.from_residual-in_err-write_back.ensures.1)

pub returns : goal.returns
returns g c =
    let read = c.in_ok-read.ensures in
    let all = attempts_from (tries c.read.new.into) 17 _ (g.D.PortDisk.means c.args.disk.now) _ _ _ _ _ _ read.same c.in_ok-write_back.ensures in
    replays_from _ (g.D.PortDisk.means c.args.disk.now) _ (g.D.PortDisk.means c.args.disk.now) _ _ _ _ _ refl read.later
    (replays_all c.read.new.into _ _ _ _ _ _ read.reads.0 read.reads.1 c.requires.open (sym c.is_good.ensures ∙ c.if-not-is_good.false) all)
