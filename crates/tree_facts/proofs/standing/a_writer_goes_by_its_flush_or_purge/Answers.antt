use Rattle.tree_facts.proofs.Writers.{writing_ends}
use Rattle.tree_facts.proofs.standing.a_writer_goes_by_its_flush_or_purge.Goals as goal

pub returns : goal.returns
returns c = writing_ends
