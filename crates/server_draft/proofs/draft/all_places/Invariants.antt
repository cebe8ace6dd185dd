use Rattle.std.proofs.Common.{◌≡◌, take}
use Rattle.server_draft.specs.Acts.{places}
use Rattle.server_draft.proofs.draft.all_places.Given as goal

abbrev pub invariant-loop-act : goal.invariant-loop-act
invariant-loop-act l = l.writes.items ≡ places (take l.act-index l.acts)
