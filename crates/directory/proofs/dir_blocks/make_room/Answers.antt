use Rattle.std.proofs.Common.{◌≡◌, ◌≢◌, ◌∙◌, arith, ap, sym, length}
use Rattle.directory.specs.Directory.{first_empty}
use Rattle.directory.proofs.Directories.{all_taken, room_free, room_full}
use Rattle.directory.proofs.dir_blocks.make_room.Goals as goal

pub push_block-requires : goal.push_block-requires
push_block-requires c =
    let same = ap length c.seek_empty-place.ensures.unchanged in
    let seen = ap length c.slots.ensures.slots in
    let at = c.if-place-slots.true in
    let first = c.seek_empty-place.ensures.first in
    let taken = all_taken c.args.table.now (omega arith) in
    let whole = c.requires.whole in
    omega arith

pub returns-then-place-slots-clause-room : goal.returns-then-place-slots-clause-room
returns-then-place-slots-clause-room c =
    let same = ap length c.seek_empty-place.ensures.unchanged in
    let seen = ap length c.slots.ensures.slots in
    let at = c.if-place-slots.true in
    let first = c.seek_empty-place.ensures.first in
    let full : first_empty c.args.table.now ≡ length c.args.table.now = omega arith in
    rw (room_full c.args.table.now full) (rw c.seek_empty-place.ensures.unchanged at c.push_block.ensures)

pub returns-else-place-slots-clause-room : goal.returns-else-place-slots-clause-room
returns-else-place-slots-clause-room c =
    let same = ap length c.seek_empty-place.ensures.unchanged in
    let seen = ap length c.slots.ensures.slots in
    let at = c.if-place-slots.false in
    let first = c.seek_empty-place.ensures.first in
    let free : first_empty c.args.table.now ≢ length c.args.table.now = λ full. omega arith in
    c.seek_empty-place.ensures.unchanged ∙ sym (room_free c.args.table.now free)
