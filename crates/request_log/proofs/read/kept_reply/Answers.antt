use Rattle.std.proofs.Common.{◌≡◌, true, refl, sym}
use Rattle.request_log.proofs.SlotLemmas.{none_stands, stands_none}
use Rattle.request_log.proofs.read.kept_reply.Goals as goal

pub returns-then-not-ends-clause-bad : goal.returns-then-not-ends-clause-bad
returns-then-not-ends-clause-bad c = λ reply stands.
    let none = none_stands _ _ _ reply c.if-call-ne0.false stands in
    let yes : c.ends.result ≡ true = c.ends.ensures.1 (sym none.0, none.1) in
    cc

pub returns-clause-found : goal.returns-clause-found
returns-clause-found c =
    let end = c.if-not-ends.ensures.0 refl in
    stands_none _ _ _ c.if-call-ne0.false (sym end.0) end.1
