use Rattle.session.specs.declared.session.Session.TheInside.{Inside}
use Rattle.session.specs.Session.{SessionState}

-- a session without where its bodies lie in memory
abbrev pub session_state : Inside → SessionState
session_state it = record { me = it.me; peer = it.peer; view = it.view; acknowledged = it.acknowledged; taken = it.taken; bodies = it.bodies.items; steps = it.steps }
