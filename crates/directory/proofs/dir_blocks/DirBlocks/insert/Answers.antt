use Rattle.std.proofs.Common.{◌<◌, arith, ap, List, ℕ}
use Rattle.directory.specs.declared.entry.DirEntry.{DirEntry}
use Rattle.directory.specs.Directory.{entry_count}
use Rattle.directory.proofs.Directories.{absent_room, directory_inserted, is_inserted}
use Rattle.directory.proofs.dir_blocks.DirBlocks.insert.Goals as goal

pub fill-requires-clause-absent : goal.fill-requires-clause-absent
fill-requires-clause-absent c = absent_room c.args.self.now c.self.inside.table _ c.args.name.now _ c.self.view_is c.make_room-place.ensures.room c.new.ensures c.requires.absent

pub invariant_of-self : goal.invariant_of-self
invariant_of-self c =
    let few = c.count.ensures in
    let other = c.if-count-eq-DIRECTORY_ENTRIES.false in
    let free : entry_count c.self.inside.table < 1024 = omega arith in
    directory_inserted c.args.self.now c.self.inside.table _ _ _ c.args.name.now (record { name = c.new.result; ino = c.args.ino }) c.self.invariant free c.self.view_is c.make_room-place.ensures.room
    c.new.ensures c.requires.absent c.requires.name c.requires.from_one c.requires.to_511 c.fill.ensures

pub returns-clause-ok : goal.returns-clause-ok
returns-clause-ok c =
    is_inserted c.args.self.now c.self.inside.table _ _ _ c.args.name.now c.args.ino (record { name = c.new.result; ino = c.args.ino }) c.self.view_is c.make_room-place.ensures.room c.make_room-place.ensures.first
    (let build : List ℕ → DirEntry = λ n. record { name = n; ino = c.args.ino } in ap build c.new.ensures) c.fill.ensures
