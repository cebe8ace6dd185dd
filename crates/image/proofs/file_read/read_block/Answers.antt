use Rattle.std.proofs.Common.{◌≡◌, ◌≢◌, ◌+◌, true}
use Rattle.shared_disk.specs.Sectors.{written}
use Rattle.image.proofs.Filling.{behind_holds, hole}
use Rattle.image.proofs.Reading.{sector_told, told_before}
use Rattle.image.proofs.file_read.read_block.Goals as goal

pub returns-then-is_hole-clause-block : goal.returns-then-is_hole-clause-block
returns-then-is_hole-clause-block g c = λ s t. hole (written s c.args.writes.now) c.args.pointer c.args.into.now c.requires.zeros (c.is_hole.ensures.0 c.if-is_hole.true)

pub returns-in-Ok-clause-block : goal.returns-in-Ok-clause-block
returns-in-Ok-clause-block g c = λ s t.
    let some : c.args.pointer ≢ 0 = λ none. (let is : c.is_hole.result ≡ true = c.is_hole.ensures.1 none in cc) in
    let whole = c.in-Ok.ensures.whole s (told_before (g.D.PortDisk.means c.args.disk.now) _ s c.read.ensures.same t) in
    behind_holds s c.args.writes.now c.args.pointer c.read.new.into c.lay_over.new.into whole.count c.requires.within
    (sector_told (g.D.PortDisk.means c.args.disk.now) (547 + c.args.pointer) _ c.in-Ok.ensures.reads.1 s t) c.lay_over.ensures some
