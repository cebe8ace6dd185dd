use Rattle.std.proofs.Common.{◌≡◌, true, refl}
use Rattle.request_log.proofs.SlotLemmas.{last_ends, last_parts, last_taken}
use Rattle.request_log.proofs.read.last_reply.Goals as goal

pub returns-in_default-clause-bad : goal.returns-in_default-clause-bad
returns-in_default-clause-bad c = λ reply last.
    let both = c.in_default.ensures.again reply _ last.change (last_parts _ _ reply last) in
    let other = both.0 in
    cc

pub returns-then-not-ends-clause-bad : goal.returns-then-not-ends-clause-bad
returns-then-not-ends-clause-bad c = λ reply last.
    let both = c.in-Ok.ensures.again reply _ last.change (last_parts _ _ reply last) in
    let yes : c.ends.result ≡ true = c.ends.ensures.1 (last_ends _ _ _ reply last both.1) in
    cc

pub returns-clause-found : goal.returns-clause-found
returns-clause-found c =
    let end = c.if-not-ends.ensures.0 refl in
    last_taken _ _ _ _ c.in-Ok.ensures.taken.0 c.in-Ok.ensures.taken.1 end.0 end.1
