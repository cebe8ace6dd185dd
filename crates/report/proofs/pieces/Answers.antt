use Rattle.std.proofs.Common.{arith}
use Rattle.report.proofs.Joined.{together, sizes, numbered, count_pieces}
use Rattle.report.proofs.pieces.Goals as goal

pub returns-clause-together : goal.returns-clause-together
returns-clause-together c = rw c.in_ok-report.ensures (together c.args.holds.now)

pub returns-clause-sizes : goal.returns-clause-sizes
returns-clause-sizes c = rw c.in_ok-report.ensures (sizes c.args.holds.now)

pub returns-clause-numbered : goal.returns-clause-numbered
returns-clause-numbered c = rw c.in_ok-report.ensures (numbered c.args.holds.now)

pub returns-clause-count : goal.returns-clause-count
returns-clause-count c = rw c.in_ok-report.ensures (count_pieces c.args.holds.now 65536 (omega arith) (omega arith))

pub returns-clause-few : goal.returns-clause-few
returns-clause-few c = λ few. rw c.in_ok-report.ensures (count_pieces c.args.holds.now 64 (omega (arith, few)) (omega arith))
