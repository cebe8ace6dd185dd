use Rattle.cluster_run.proofs.Good.{format_counts, good_is_run}
use Rattle.cluster_run.proofs.laws.a_good_script_is_run.Goals as goal

pub returns : goal.returns
returns c = record { ends = good_is_run; counts = format_counts }
