-- Counts of steps and packets.
use Rattle.std.specs.Prelude.{◌≡◌}
use Rattle.run_trace.specs.Past.{Past}
use Rattle.trace_reader.specs.declared.totals.Totals.{Totals}

-- these are the counts of what stands before an item
pub record IsTotal (past : Past) (totals : Totals) : Type 0 where
  pub steps : totals.steps ≡ past.steps
  pub packets : totals.packets ≡ past.packets
