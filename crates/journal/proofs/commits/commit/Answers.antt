use Rattle.journal.proofs.AfterCommit.{ok_after, err_cut, commit_leaves, commit_ends}
use Rattle.journal.proofs.OpeningLemmas.{runs_end_as, runs_keep_count, tells_opening}
use Rattle.journal.proofs.commits.commit.Goals as goal

pub returns-clause-ok : goal.returns-clause-ok
returns-clause-ok g c = rw c.homes.ensures.homes at (ok_after _ _ _ _ _ _ _ _ c.write_homes.ensures.runs)

pub returns-clause-halted : goal.returns-clause-halted
returns-clause-halted g c = rw c.homes.ensures.homes at (err_cut _ _ _ _ _ _ _ _ c.write_homes.ensures.runs)

pub returns-clause-replays : goal.returns-clause-replays
returns-clause-replays g c = λ s told whole closed. rw c.homes.ensures.homes at (commit_leaves s _ _ _ _ _ _ _ _ c.write_homes.ensures.runs told whole closed c.homes.ensures.allowed)

pub returns-clause-committed : goal.returns-clause-committed
returns-clause-committed g c = λ s told whole closed. rw c.homes.ensures.homes at (commit_ends s _ _ _ _ _ _ _ _ c.write_homes.ensures.runs told whole closed c.homes.ensures.allowed)

pub returns-clause-ends : goal.returns-clause-ends
returns-clause-ends g c = rw c.homes.ensures.homes at (runs_end_as _ _ _ _ _ _ _ _ c.write_homes.ensures.runs)

pub returns-clause-opening : goal.returns-clause-opening
returns-clause-opening g c = λ s told long closed room. rw c.homes.ensures.homes at (tells_opening s _ _ _ _ _ _ _ _ c.write_homes.ensures.runs told long closed c.homes.ensures.allowed (rw (← c.homes.ensures.homes) at room))

pub returns-clause-count : goal.returns-clause-count
returns-clause-count g c = runs_keep_count _ _ _ _ _ _ _ _ c.write_homes.ensures.runs
