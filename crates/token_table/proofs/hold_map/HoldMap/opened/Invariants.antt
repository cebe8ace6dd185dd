use Rattle.std.proofs.Common.{◌≡◌, take}
use Rattle.std.specs.List.{filter_map, All}
use Rattle.token_table.specs.Blockers.{IsOpened, opened_by}
use Rattle.token_table.proofs.hold_map.HoldMap.opened.Given as goal

abbrev pub invariant-loop-i : goal.invariant-loop-i
invariant-loop-i l = All (IsOpened l.self) l.inos × (l.inos ≡ filter_map opened_by (take l.i l.self-inside.holds.entries))
