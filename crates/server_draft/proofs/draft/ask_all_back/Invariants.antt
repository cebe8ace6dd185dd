use Rattle.std.proofs.Common.{◌≡◌, ◌++◌, All, length, map}
use Rattle.std.specs.Vec.Iter.{into_iter_items, into_iter_len}
use Rattle.server_draft.specs.Acts.{CanBeDone, asked_back}
use Rattle.server_draft.proofs.draft.ask_all_back.Given as goal

abbrev pub invariant-loop-sent : goal.invariant-loop-sent
invariant-loop-sent l = (l.acts ++ map asked_back (into_iter_items l.sent-iterator) ≡ l.fn.acts ++ map asked_back l.fn.revokes)
    × All (λ sent. CanBeDone (asked_back sent)) (into_iter_items l.sent-iterator)
    × (into_iter_len l.sent-iterator ≡ length (into_iter_items l.sent-iterator))
