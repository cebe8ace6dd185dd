use Rattle.std.proofs.Common.{◌≡◌, ◌+◌, ◌*◌, ◌/◌, ◌%◌, true, arith, ap, ◌∙◌, ℕ}
use Rattle.std.specs.List.{slice_set}
use Rattle.space_map.specs.SpaceMap.{free_blocks}
use Rattle.space_map.proofs.FreeBlocks.{set-free_blocks}
use Rattle.space_map.proofs.bits.give_block.Goals as goal

pub returns-clause-given : goal.returns-clause-given
returns-clause-given c =
    let split : 8 * (c.args.block / 8) + c.args.block % 8 ≡ c.args.block = omega arith in
    set-free_blocks c.args.bytes.now (c.args.block / 8) (c.args.block % 8) _ true (omega arith) (omega arith) c.with_free.ensures
    ∙ ap (λ (n : ℕ). slice_set (free_blocks c.args.bytes.now) n true) split
