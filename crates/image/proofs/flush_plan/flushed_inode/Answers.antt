use Rattle.std.proofs.Common.{◌∙◌, length, ap}
use Rattle.image.proofs.FlushPlans.{cut_long, pieces_within}
use Rattle.image.proofs.flush_plan.flushed_inode.Goals as goal

pub point_at-requires-clause-pieces : goal.point_at-requires-clause-pieces
point_at-requires-clause-pieces c =
    pieces_within c.args.flush.now c.as_slice.result.now _ c.requires.flush c.as_slice.ensures (ap length c.cut_pointers.ensures ∙ cut_long _ c.args.inode.now.blocks ∙ c.requires.inode.count)
