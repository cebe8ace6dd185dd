use Rattle.std.proofs.Common.{◌+◌, ◌≤◌, length, take, vec_len, vec_capacity}
use Rattle.indexmap.specs.IndexMap.{spare}
use Rattle.token_table.specs.Series.{Same, table_of, with_holds}
use Rattle.token_table.proofs.hold_map.set_each.Given as goal

abbrev pub invariant-loop-token : goal.invariant-loop-token
invariant-loop-token l =
    Same (table_of l.holds.entries l.writes.items) (with_holds (table_of l.fn.holds.entries l.fn.writes.items) l.c (take l.token-index l.tokens))
    × (length l.tokens ≤ spare l.holds + l.token-index) × (vec_len l.writes + length l.tokens ≤ vec_capacity l.writes + l.token-index)
