use Rattle.server_mail.proofs.Telling.{bodies-count, told-few}
use Rattle.server_mail.proofs.laws.no_client_is_told_more_than_is_done.Goals as goal

pub returns-clause-count : goal.returns-clause-count
returns-clause-count c = bodies-count

pub returns-clause-few : goal.returns-clause-few
returns-clause-few c = told-few
