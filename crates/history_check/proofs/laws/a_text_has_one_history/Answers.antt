use Rattle.history_check.proofs.OneHistory.{one_history}
use Rattle.history_check.proofs.laws.a_text_has_one_history.Goals as goal

pub returns : goal.returns
returns c = one_history
