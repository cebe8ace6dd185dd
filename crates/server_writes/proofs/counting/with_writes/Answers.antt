use Rattle.std.proofs.Common.{arith, ap, length}
use Rattle.server_draft.specs.Acts.{commit_of}
use Rattle.server_writes.specs.Planned.{writes_by}
use Rattle.server_writes.proofs.Planning.{length_by, on_err}
use Rattle.server_writes.proofs.counting.with_writes.Goals as goal

pub returns-in_ok-all-in-Commits-clause-count : goal.returns-in_ok-all-in-Commits-clause-count
returns-in_ok-all-in-Commits-clause-count c =
    let a = c.in_ok-all-in-Commits.ensures.sum in
    let b = c.in_ok-laid-in-Commits.ensures.sum in
    let d = c.len.ensures in
    let e = c.commit_length.ensures in
    let f = ap (λ homes. length homes) c.homes.ensures.homes in
    let h = length_by (commit_of c.in-Commits.commit) in
    let i = ap (λ act. length (writes_by act)) c.in-Commits.is in
    omega arith

pub returns-in_err-all-in-Commits-clause-many : goal.returns-in_err-all-in-Commits-clause-many
returns-in_err-all-in-Commits-clause-many c =
    let a = c.in_err-all-in-Commits.ensures.many in
    let b = c.in_ok-laid-in-Commits.ensures.sum in
    let d = c.len.ensures in
    let e = c.commit_length.ensures in
    let f = ap (λ homes. length homes) c.homes.ensures.homes in
    let h = length_by (commit_of c.in-Commits.commit) in
    let i = ap (λ act. length (writes_by act)) c.in-Commits.is in
    on_err c.from_residual-in_err-all-in-Commits.result (omega arith)
