use Rattle.std.proofs.Common.{arith, ap, length}
use Rattle.fence.proofs.RunsLemmas.{runs_then, runs_early, runs_passed}
use Rattle.journal.specs.Commit.{commit_writes}
use Rattle.cluster_law.specs.History.{writes_of}
use Rattle.server_draft.specs.Acts.{commit_of}
use Rattle.server_writes.proofs.Planning.{length_by}
use Rattle.server_writes.proofs.writing.write_commit.Goals as goal

pub returns-in_err-write_all : goal.returns-in_err-write_all
returns-in_err-write_all g c =
    let made = c.args.made.now in
    let laid = rw c.as_slice.ensures at c.in_err-write_all.ensures in
    record { runs = runs_passed (writes_of (commit_of made)) _ _ _ _ c.from_residual.result _ _ _ (runs_early made.lays (commit_writes made.homes) _ _ _ _ _ _ _ laid) c.from_residual.ensures.1 }

pub commit-requires : goal.commit-requires
commit-requires g c =
    let r = c.in_ok-write_all.ensures.room in
    let e = length_by (commit_of c.args.made.now) in
    let f = ap (λ lays. length lays) c.as_slice.ensures in
    let h = c.requires.room in
    omega arith

pub returns : goal.returns
returns g c =
    let made = c.args.made.now in
    let laid = rw c.as_slice.ensures at c.in_ok-write_all.ensures in
    record { runs = runs_then made.lays (commit_writes made.homes) _ _ _ _ _ _ _ _ _ _ laid c.commit.ensures.runs }
