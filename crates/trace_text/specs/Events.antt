-- What happened in a step.
use Rattle.std.specs.Prelude.{ℕ, List, [], ◌++◌, codes, Option, Some, None}
use Rattle.std.specs.Fmt.{decimal}
use Rattle.tree_law.specs.declared.call.Call.{Call}
use Rattle.shared_disk.specs.declared.stop.Stop.{Stop}
use Rattle.cluster_law.specs.declared.step.Event.{Event}
use Rattle.cluster_law.specs.declared.step.Event.TheVariants.{Start, Deliver, Tick, Crash, NewView, Gone, WriteBack}
use Rattle.script.specs.Spelling.{client_word}
use Rattle.trace_text.specs.Calls.{call_text}
use Rattle.trace_text.specs.Sectors.{sector_text}

-- what a stop leaves of the write that it cuts off: nothing, or these bytes of its sector
abbrev pub how_text : Option (List ℕ) → List ℕ
how_text None = codes "clean"
how_text (Some torn) = sector_text torn

-- the stop that is armed on an event, if there is one: after how many writes, and how
abbrev pub stop_text : Option Stop → List ℕ
stop_text None = []
stop_text (Some stop) = codes " stop " ++ decimal stop.after ++ codes " " ++ how_text stop.torn

-- a client starts its call of this number
abbrev pub start_text : ℕ → Call → List ℕ
start_text number call = codes "start " ++ decimal number ++ codes " " ++ call_text call

-- an event, where this is the number of the call that it starts, or the view that it opens
abbrev pub event_text : ℕ → ℕ → Event → List ℕ
event_text number view (Start client call) = start_text number call
event_text number view (Deliver packet stop) = codes "deliver " ++ decimal packet ++ stop_text stop
event_text number view (Tick node stop) = codes "tick" ++ stop_text stop
event_text number view (Crash node) = codes "crash"
event_text number view (NewView server stop) = codes "view " ++ decimal view ++ stop_text stop
event_text number view (Gone client) = codes "gone " ++ client_word client
event_text number view (WriteBack client fd) = codes "writeback " ++ decimal fd
