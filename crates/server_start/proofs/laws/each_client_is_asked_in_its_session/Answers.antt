use Rattle.server_start.proofs.Single.{are-between, sent-to, session-is}
use Rattle.server_start.proofs.laws.each_client_is_asked_in_its_session.Goals as goal

pub returns-clause-between : goal.returns-clause-between
returns-clause-between c = λ id view test. are-between id view test

pub returns-clause-session : goal.returns-clause-session
returns-clause-session c = λ id view test client within. session-is id view test client within

pub returns-clause-sent : goal.returns-clause-sent
returns-clause-sent c = λ id view test client within. sent-to id view test client within
