use Rattle.volume_plan.proofs.Renames.{rename_leads}
use Rattle.volume_plan.proofs.ReplacedFiles.{rename_done}
use Rattle.volume_plan.proofs.moving.a_rename_stands.Goals as goal

pub returns-clause-done : goal.returns-clause-done
returns-clause-done c = λ sectors v history client number path goal opened move m at few. rename_done sectors v history client number path goal opened m move at few

pub returns-clause-stands : goal.returns-clause-stands
returns-clause-stands c = λ sectors v history client number path goal opened m a done. rename_leads sectors v history client number path goal opened m a done
