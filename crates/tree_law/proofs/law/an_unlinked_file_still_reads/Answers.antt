use Rattle.tree_law.proofs.OpenFiles.{unlinked_reads}
use Rattle.tree_law.proofs.law.an_unlinked_file_still_reads.Goals as goal

pub returns : goal.returns
returns c = unlinked_reads
