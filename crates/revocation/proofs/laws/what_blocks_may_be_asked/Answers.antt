use Rattle.revocation.proofs.Askable.{blockers_askable, touchers_askable}
use Rattle.revocation.proofs.laws.what_blocks_may_be_asked.Goals as goal

pub returns-clause-needs : goal.returns-clause-needs
returns-clause-needs c = λ t client is_directory needs table are. blockers_askable t client is_directory table needs are

pub returns-clause-touches : goal.returns-clause-touches
returns-clause-touches c = λ t is_directory touches are. touchers_askable t is_directory touches are
