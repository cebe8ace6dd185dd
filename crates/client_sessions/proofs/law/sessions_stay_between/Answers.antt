use Rattle.client_sessions.proofs.Between.{first-between, hearing-between, put-between, sending-between, sent-between}
use Rattle.client_sessions.proofs.law.sessions_stay_between.Goals as goal

pub returns-clause-first : goal.returns-clause-first
returns-clause-first c = first-between

pub returns-clause-hearing : goal.returns-clause-hearing
returns-clause-hearing c = hearing-between

pub returns-clause-sending : goal.returns-clause-sending
returns-clause-sending c = sending-between

pub returns-clause-resending : goal.returns-clause-resending
returns-clause-resending c = λ server view m client. sent-between server view m _

pub returns-clause-acknowledging : goal.returns-clause-acknowledging
returns-clause-acknowledging c = λ server view m client. sent-between server view m _

pub returns-clause-replacing : goal.returns-clause-replacing
returns-clause-replacing c = λ server view m others client between also. put-between server view m client _ _ (also.each client) between

pub returns-clause-giving : goal.returns-clause-giving
returns-clause-giving c = λ server view m others client between also. put-between server view m client _ _ (also.each client) between

pub returns-clause-taking : goal.returns-clause-taking
returns-clause-taking c = λ server view m. sent-between server view m _
