-- What a run prints between its first line and its last, the newest first.
use Rattle.std.specs.Prelude.{ℕ, List, [], ◌∷◌, ◌++◌}
use Rattle.cluster_law.specs.declared.step.TraceStep.{TraceStep}
use Rattle.trace_text.specs.Line.{line}
use Rattle.trace_text.specs.Runs.{end_line, refused_line, run_line, settled_line}
use Rattle.trace_text.specs.Steps.{step_text}
use Rattle.trace_text.specs.declared.runs.Cause.{Cause}
use Rattle.trace_text.specs.declared.runs.Settled.{Settled}
use Rattle.trace_text.specs.declared.steps.Place.{Place}

-- a step, where it stands in the run; an event that can't happen, by its line and why; the end of a `settle`, by its
-- line, the rounds of ticks that it began, and how it ends
pub data Item : Type 0 where
  step : Place → TraceStep → Item
  refused : ℕ → Cause → Item
  settled : ℕ → ℕ → Settled → Item

abbrev pub item_text : Item → List ℕ
item_text (step place made) = step_text place made
item_text (refused number cause) = line (refused_line number cause)
item_text (settled number cycles how) = line (settled_line number cycles how)

abbrev pub items_text : List Item → List ℕ
items_text [] = []
items_text (item ∷ earlier) = items_text earlier ++ item_text item

-- the text of a run so far: its first line, and the lines of its items
abbrev pub begun_text : ℕ → ℕ → List Item → List ℕ
begun_text clients window items = line (run_line clients window) ++ items_text items

-- the whole text of a run of so many steps
abbrev pub whole_text : ℕ → ℕ → List Item → ℕ → List ℕ
whole_text clients window items steps = begun_text clients window items ++ line (end_line steps)
