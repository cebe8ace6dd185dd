use Rattle.std.proofs.Common.{arith, ap, length}
use Rattle.server_draft.specs.Acts.{commit_of}
use Rattle.server_writes.specs.Planned.{writes_by}
use Rattle.server_writes.proofs.Planning.{length_by}
use Rattle.server_writes.proofs.counting.writes_of.Goals as goal

pub returns-in-Commits : goal.returns-in-Commits
returns-in-Commits c =
    let d = c.len.ensures in
    let e = c.commit_length.ensures in
    let f = ap (λ homes. length homes) c.homes.ensures.homes in
    let h = length_by (commit_of c.in-Commits.commit) in
    let i = ap (λ act. length (writes_by act)) c.in-Commits.is in
    omega arith

pub overflow_add-result : goal.overflow_add-result
overflow_add-result c = let e = returns-in-Commits c in let h = c.requires in omega arith
