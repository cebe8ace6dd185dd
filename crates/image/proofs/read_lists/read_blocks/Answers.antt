use Rattle.std.proofs.Common.{◌≡◌, ◌<◌, ◌/◌, ℕ, ap, arith, length, slice_index, subst, sym}
use Rattle.volume.specs.Volume.{Slots}
use Rattle.image.specs.Damage.{BreaksOff, LacksBlock, Loads}
use Rattle.image.proofs.Loading.{breaks, loads_next, loads_none}
use Rattle.image.proofs.Reading.{reads_none, reads_ok, reads_then, reads_widen, told_before}
use Rattle.image.proofs.read_lists.read_blocks.Goals as goal

pub loop-directory-init : goal.loop-directory-init
loop-directory-init g c =
    let none : length c.args.directory.now ≡ 0 = ap length c.requires.none in
    let first : 0 ≡ length c.args.directory.now / 128 = omega arith in
    record {
      reads = reads_none (LacksBlock c.args.number) _ _ _ c.requires.own;
      loaded = λ s t. subst (λ (n : ℕ). Loads s c.args.inode.now n c.args.directory.now) first (loads_none s c.args.inode.now c.args.directory.now c.requires.none);
      whole = omega arith;
      few = omega arith;
    }

pub loop-directory-preserved : goal.loop-directory-preserved
loop-directory-preserved g c =
    let i = c.loop-directory.invariant in
    let seen = c.slots-in-loop-directory.ensures.slots in
    let test = c.loop-directory-test.true in
    let held = ap length c.slots.ensures.slots in
    let more = c.in-Ok.ensures.more in
    let whole = i.whole in
    record {
      reads = reads_then (LacksBlock c.args.number) _ _ _ _ _ _ _ _ i.reads (reads_ok (BreaksOff c.loop-directory.directory _) (LacksBlock c.args.number) _ _ _ _ _ c.in-Ok.ensures.reads);
      loaded = λ s t. loads_next s c.args.inode.now (length c.loop-directory.directory / 128) _ _ c.loop-directory.directory _ (omega arith)
          (ap (λ (xs : Slots). slice_index c.args.inode.now.blocks (length xs / 128)) seen) (i.loaded s t)
          (c.in-Ok.ensures.ok s (told_before (g.D.PortDisk.means c.args.disk.now) _ s i.reads.same t));
      whole = omega arith;
      few = omega arith;
    }

pub returns-in-Err-clause-reads : goal.returns-in-Err-clause-reads
returns-in-Err-clause-reads g c =
    let i = c.loop-directory.invariant in
    let seen = c.slots-in-loop-directory.ensures.slots in
    let test = c.loop-directory-test.true in
    let held = ap length c.slots.ensures.slots in
    let whole = i.whole in
    let within : length c.loop-directory.directory / 128 < c.args.inode.now.size / 4096 = omega arith in
    reads_then (LacksBlock c.args.number) _ _ _ _ _ _ _ _ i.reads (reads_widen (BreaksOff c.loop-directory.directory _) (LacksBlock c.args.number) _ _ _ _ _ _ (λ s at t off.
    breaks s at c.args.number (length c.loop-directory.directory / 128) _ c.args.inode.now c.loop-directory.directory (c.requires.spelled s (told_before _ (g.D.PortDisk.means c.args.disk.now) s (sym i.reads.same) t)) c.requires.kind
    within (ap (λ (xs : Slots). slice_index c.args.inode.now.blocks (length xs / 128)) seen) (i.loaded s (told_before _ (g.D.PortDisk.means c.args.disk.now) s (sym i.reads.same) t)) off) c.in-Err.ensures.reads)
