use Rattle.image.proofs.Shown.{counted_names}
use Rattle.image.proofs.shown_node.name_count.Goals as goal

pub returns : goal.returns
returns c = counted_names c.args.blocks.now _ c.count.ensures.directory c.count.ensures.count
