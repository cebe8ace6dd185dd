use Rattle.tree_law.proofs.Histories.{history_clean}
use Rattle.tree_law.proofs.law.no_file_is_idle.Goals as goal

pub returns : goal.returns
returns c = history_clean
