use Rattle.std.proofs.Common.{◌+◌, drop, arith, ◌∙◌}
use Rattle.server_mail.proofs.Telling.{act-next, acts-done, acts-go-out, acts-keep, acts-make, acts-more, acts-send, acts-step, room-first, room-rest}
use Rattle.server_mail.proofs.sending.send_acts.Goals as goal

pub send-requires-clause-steps : goal.send-requires-clause-steps
send-requires-clause-steps c =
    room-first c.loop-act.mail c.act-item.result _ (drop (c.loop-act.act-index + 1) c.args.acts.now) (act-next c.args.acts.now c.loop-act.act-index c.act-item.result c.loop-act-test.true c.act-item.is) c.loop-act.invariant.1

pub loop-act-preserved : goal.loop-act-preserved
loop-act-preserved c =
    let next = act-next c.args.acts.now c.loop-act.act-index c.act-item.result c.loop-act-test.true c.act-item.is in (
      acts-more c.loop-act.mail c.send.new.mail c.act-item.result _ (drop (c.loop-act.act-index + 1) c.args.acts.now) next c.in_ok-send.ensures ∙ c.loop-act.invariant.0,
      room-rest c.loop-act.mail c.send.new.mail c.act-item.result _ (drop (c.loop-act.act-index + 1) c.args.acts.now) next c.in_ok-send.ensures c.loop-act.invariant.1,
    )

pub returns-clause-session : goal.returns-clause-session
returns-clause-session c = λ server view client between within.
    let past = c.loop-act-test.false in
    acts-make server view (c.sessions_stay_between.ensures.sending server view) c.args.mail.now c.loop-act.mail c.args.acts.now client
    (acts-done c.args.mail.now c.loop-act.mail c.args.acts.now c.loop-act.act-index (omega (arith, past)) c.loop-act.invariant.0) between within

pub returns-clause-steps : goal.returns-clause-steps
returns-clause-steps c = λ server view client between within.
    let past = c.loop-act-test.false in
    acts-step server view (c.sessions_stay_between.ensures.sending server view) c.args.mail.now c.loop-act.mail c.args.acts.now client
    (acts-done c.args.mail.now c.loop-act.mail c.args.acts.now c.loop-act.act-index (omega (arith, past)) c.loop-act.invariant.0) between within

pub returns-clause-sent : goal.returns-clause-sent
returns-clause-sent c = λ server view client between within.
    let past = c.loop-act-test.false in
    acts-send server view (c.sessions_stay_between.ensures.sending server view) c.args.mail.now c.loop-act.mail c.args.acts.now client
    (acts-done c.args.mail.now c.loop-act.mail c.args.acts.now c.loop-act.act-index (omega (arith, past)) c.loop-act.invariant.0) c.requires.acts between within

pub returns-clause-between : goal.returns-clause-between
returns-clause-between c = λ server view between.
    let past = c.loop-act-test.false in
    acts-keep server view (c.sessions_stay_between.ensures.sending server view) c.args.mail.now c.loop-act.mail c.args.acts.now
    (acts-done c.args.mail.now c.loop-act.mail c.args.acts.now c.loop-act.act-index (omega (arith, past)) c.loop-act.invariant.0) between

pub returns-clause-out : goal.returns-clause-out
returns-clause-out c = λ server view.
    let past = c.loop-act-test.false in
    acts-go-out server view (c.sessions_stay_between.ensures.sending server view) c.args.mail.now c.loop-act.mail c.args.acts.now
    (acts-done c.args.mail.now c.loop-act.mail c.args.acts.now c.loop-act.act-index (omega (arith, past)) c.loop-act.invariant.0) c.requires.acts
