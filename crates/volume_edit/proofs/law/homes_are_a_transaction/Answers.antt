use Rattle.volume_edit.proofs.Transaction.{are_transaction}
use Rattle.volume_edit.proofs.law.homes_are_a_transaction.Goals as goal

pub returns : goal.returns
returns c = λ v e homes h is at. are_transaction v e homes h is at
