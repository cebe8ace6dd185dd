-- The text of a run.
use Rattle.std.specs.Prelude.{ℕ, List, [], ◌∷◌, ◌++◌}
use Rattle.trace_text.specs.Line.{line}
use Rattle.trace_text.specs.Runs.{run_line, refused_line, settled_line, end_line}
use Rattle.trace_text.specs.Steps.{step_text}
use Rattle.run_trace.specs.Past.{Past, start, after, after_all, place_of}
use Rattle.run_trace.specs.declared.trace.Trace.{Trace}
use Rattle.run_trace.specs.declared.trace.TraceItem.{TraceItem}
use Rattle.run_trace.specs.declared.trace.TraceItem.TheVariants.{Step, Refused, Settled}

-- the lines of an item
abbrev pub item_text : Past → TraceItem → List ℕ
item_text past (Step step) = step_text (place_of past step.event) step
item_text past (Refused number cause) = line (refused_line number cause)
item_text past (Settled number cycles how) = line (settled_line number cycles how)

-- the lines of items, in order
unfoldable pub items_text : Past → List TraceItem → List ℕ
items_text past [] = []
items_text past (item ∷ items) = item_text past item ++ items_text (after past item) items

-- the text of a run: its first line, the lines of its items, and how many steps there were
unfoldable pub text_of : Trace → List ℕ
text_of trace = line (run_line trace.clients trace.window) ++ items_text start trace.items ++ line (end_line (after_all start trace.items).steps)
