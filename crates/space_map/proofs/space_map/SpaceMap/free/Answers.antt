use Rattle.std.proofs.Common.{arith, length, ap, sym, ◌∙◌}
use Rattle.space_map.proofs.FreeBlocks.{length-free_blocks}
use Rattle.space_map.proofs.space_map.SpaceMap.free.Goals as goal

pub returns-clause-blocks : goal.returns-clause-blocks
returns-clause-blocks c = ap length (sym c.self.view_is) ∙ omega (arith, length-free_blocks c.self.inside.bytes)
