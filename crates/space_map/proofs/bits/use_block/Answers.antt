use Rattle.std.proofs.Common.{◌≡◌, ◌+◌, ◌*◌, ◌/◌, ◌%◌, false, arith, ap, ◌∙◌, ℕ}
use Rattle.std.specs.List.{slice_set}
use Rattle.space_map.specs.SpaceMap.{free_blocks}
use Rattle.space_map.proofs.FreeBlocks.{set-free_blocks}
use Rattle.space_map.proofs.bits.use_block.Goals as goal

pub returns-clause-used : goal.returns-clause-used
returns-clause-used c =
    let split : 8 * (c.args.block / 8) + c.args.block % 8 ≡ c.args.block = omega arith in
    set-free_blocks c.args.bytes.now (c.args.block / 8) (c.args.block % 8) _ false (omega arith) (omega arith) c.with_used.ensures
    ∙ ap (λ (n : ℕ). slice_set (free_blocks c.args.bytes.now) n false) split
