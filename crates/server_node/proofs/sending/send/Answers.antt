use Rattle.server_node.proofs.Spoken.{sends}
use Rattle.server_node.proofs.sending.send.Goals as goal

pub returns : goal.returns
returns c = λ id view between out.
    let told = c.in_ok-send_acts.ensures in
    let owed = c.in_ok-acknowledge.ensures in
    let mid = told.between id view between in
    let goes = told.out id view between out in
    sends id view c.args.mail.now c.send_acts.new.mail c.acknowledge.new.mail _ c.args.acts.now c.args.answers _
    (record {
      between = mid;
      out = goes;
      session = λ client within. told.session id view client between within;
      steps = λ client within. told.steps id view client between within;
      sent = λ client within. told.sent id view client between within;
    })
    (record {
      sessions = owed.sessions;
      between = owed.between id view mid;
      out = owed.out id view mid goes;
      sent = λ client within. owed.sent id view client mid within;
    })
    c.take_sent.ensures.packets c.take_sent.ensures.state
