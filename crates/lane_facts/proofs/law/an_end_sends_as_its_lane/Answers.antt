use Rattle.std.proofs.Common.{◌≤◌, length, arith}
use Rattle.cluster_law.specs.Sessions.{acked_in, made_in}
use Rattle.lane_facts.proofs.Hearing.{of-session}
use Rattle.lane_facts.proofs.Sending.{bare-sent, fresh-sent, oldest-sent}
use Rattle.lane_facts.proofs.law.an_end_sends_as_its_lane.Goals as goal

pub returns-clause-heard : goal.returns-clause-heard
returns-clause-heard c = of-session

pub returns-clause-fresh : goal.returns-clause-fresh
returns-clause-fresh c = λ w lane s earlier session talks same fits.
    let known = c.what_is_acknowledged_was_taken.ensures w lane earlier talks in
    let taken = c.what_is_taken_was_made.ensures.made w lane earlier talks in
    let low : acked_in w lane earlier ≤ length (made_in lane earlier) = omega arith in
    fresh-sent w lane s earlier session same low fits (c.a_session_goes_on.ensures w lane s earlier session talks same fits)

pub returns-clause-oldest : goal.returns-clause-oldest
returns-clause-oldest c = oldest-sent

pub returns-clause-bare : goal.returns-clause-bare
returns-clause-bare c = bare-sent
