-- What holds of all that was read, and which lines are still to be read.
use Rattle.std.specs.Prelude.{◌≡◌, ◌==◌, ℕ, Bool, true, List, [], ◌∷◌, Option, Some, None, bytes_eq, codes, get_or, length, take, ⊤}
use Rattle.std.specs.Borrow.{Bor}
use Rattle.std.specs.List.{slice_split}
use Rattle.cal_base.specs.Limits as limits
use Rattle.cal_base.specs.declared.identity.ClientId.{ClientId}
use Rattle.tree_law.specs.declared.call.Call.{Call}
use Rattle.script.specs.Spelling.{IsClient}
use Rattle.cluster_law.specs.declared.step.TraceStep.{TraceStep}
use Rattle.trace_lines.specs.Limits.{IsRun}
use Rattle.trace_lines.specs.Lines.{IsTraceLine, line_text}
use Rattle.trace_lines.specs.declared.line.TraceLine.{TraceLine}
use Rattle.run_trace.specs.Past.{Past, after_all, calls_with, start}
use Rattle.run_trace.specs.Traces.{AreItems, IsStep}
use Rattle.run_trace.specs.declared.trace.Trace.{Trace}
use Rattle.trace_reader.specs.Taking.{Takes}
use Rattle.trace_reader.specs.declared.reading.Reading.{Reading}

-- the lines of a text, of which each ends with a line feed
abbrev pub lines_left : Option (Bor (List ℕ)) → List (List ℕ)
lines_left None = []
lines_left (Some text) = slice_split (λ byte. byte == 10) text.now

-- a line that tells that the run is over
abbrev pub is_end : List ℕ → Bool
is_end line = bytes_eq (take 3 line) (codes "end")

-- the step under way, if there is one, is a step behind what stands before it
abbrev pub IsUnderWay : Past → Option TraceStep → Type 0
IsUnderWay past None = ⊤
IsUnderWay past (Some step) = IsStep past step

-- the calls started before the step under way or by it
abbrev pub calls_now : Past → Option TraceStep → ClientId → List Call
calls_now past None = past.calls
calls_now past (Some step) = calls_with past step.event

-- these are the calls of each client
pub record Knows (table : List (List Call)) (calls : ClientId → List Call) : Type 0 where
  pub whole : length table ≡ limits.clients
  pub each : (client : ClientId) → IsClient client → get_or table client.0 [] ≡ calls client

-- what was read are items that a text can tell
pub record IsSound (reading : Reading) : Type 0 where
  pub items : AreItems start reading.items
  pub step : IsUnderWay (after_all start reading.items) reading.step
  pub knows : Knows reading.calls (calls_now (after_all start reading.items) reading.step)

-- the next of these lines leads there
pub record GoesBy (line : TraceLine) (reading next : Reading) : Type 0 where
  pub is : IsTraceLine line
  pub takes : Takes reading line next

-- these lines lead from here to there
abbrev pub Goes : Reading → List TraceLine → Reading → Type 0
Goes reading [] last = last ≡ reading
Goes reading (line ∷ lines) last = (next : Reading) × GoesBy line reading next × Goes next lines last

-- these lines, the last line, and what stands behind it
abbrev pub ends_with : List TraceLine → List ℕ → List (List ℕ) → List (List ℕ)
ends_with [] end more = end ∷ more
ends_with (line ∷ lines) end more = line_text line ∷ ends_with lines end more

-- these lines are left, and they lead from here to there
pub record Awaits (left : List (List ℕ)) (reading last : Reading) : Type 0 where
  pub lines : List TraceLine
  pub end : List ℕ
  pub more : List (List ℕ)
  pub left_is : left ≡ ends_with lines end more
  pub ends : is_end end ≡ true
  pub goes : Goes reading lines last

-- a run, but for how many steps and packets there are
pub record IsLoose (trace : Trace) : Type 0 where
  pub first : IsRun (trace.clients, trace.window)
  pub items : AreItems start trace.items
