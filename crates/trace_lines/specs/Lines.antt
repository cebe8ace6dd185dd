-- A line of a run's text: its bytes, and its limits.
use Rattle.std.specs.Prelude.{ℕ, List, ◌++◌, codes, ⊤, ◌≤◌}
use Rattle.std.specs.Fmt.{decimal}
use Rattle.script.specs.Spelling.{IsCall, IsClient, IsWide, client_word}
use Rattle.trace_text.specs.Entries.{entry_front}
use Rattle.trace_text.specs.Events.{start_text, stop_text}
use Rattle.trace_text.specs.Line.{actor_word}
use Rattle.trace_text.specs.Packets.{packet_line}
use Rattle.trace_text.specs.Runs.{refused_line, settled_line}
use Rattle.trace_text.specs.Sectors.{write_line}
use Rattle.trace_text.specs.Serving.{halt_line, head_line}
use Rattle.trace_lines.specs.Limits.{IsActor, IsHead, IsMade, IsNumber32, IsPacket, IsReason, IsStop, IsWrite}
use Rattle.trace_lines.specs.declared.line.StepEvent.{StepEvent}
use Rattle.trace_lines.specs.declared.line.StepEvent.TheVariants.{Start, Deliver, Tick, Crash, NewView, Gone, WriteBack}
use Rattle.trace_lines.specs.declared.line.TraceLine.{TraceLine}
use Rattle.trace_lines.specs.declared.line.TraceLine.TheVariants.{Step, Write, CallEntry, FlushEntry, PurgeEntry, Send, Answer, Head, Halt, Refused, Settled}

-- an event as its line tells it
abbrev pub step_event_text : StepEvent → List ℕ
step_event_text (Start number call) = start_text number call
step_event_text (Deliver packet stop) = codes "deliver " ++ decimal packet ++ stop_text stop
step_event_text (Tick stop) = codes "tick" ++ stop_text stop
step_event_text Crash = codes "crash"
step_event_text (NewView view stop) = codes "view " ++ decimal view.0 ++ stop_text stop
step_event_text (Gone client) = codes "gone " ++ client_word client
step_event_text (WriteBack fd) = codes "writeback " ++ decimal fd

-- the bytes of a line, without its line feed
abbrev pub line_text : TraceLine → List ℕ
line_text (Step index actor event) = codes "step " ++ decimal index ++ codes " " ++ actor_word actor ++ codes " " ++ step_event_text event
line_text (Write write) = write_line write
line_text (CallEntry client number new reply) = entry_front client number new ++ codes " reply " ++ reply
line_text (FlushEntry client ino) = codes "entry flush c" ++ decimal client.0 ++ codes " " ++ decimal ino.0
line_text (PurgeEntry client) = codes "entry purge c" ++ decimal client.0
line_text (Send number packet) = packet_line number packet
line_text (Answer client number reply) = codes "ans c" ++ decimal client.0 ++ codes " " ++ decimal number ++ codes " " ++ reply
line_text (Head block) = head_line block
line_text (Halt actor halt) = halt_line actor halt
line_text (Refused line cause) = refused_line line cause
line_text (Settled line cycles how) = settled_line line cycles how

-- an event within its limits
abbrev pub IsStepEvent : StepEvent → Type 0
IsStepEvent (Start number call) = IsWide number × IsCall call
IsStepEvent (Deliver packet stop) = IsWide packet × IsStop stop
IsStepEvent (Tick stop) = IsStop stop
IsStepEvent Crash = ⊤
IsStepEvent (NewView view stop) = IsWide view.0 × IsStop stop
IsStepEvent (Gone client) = IsClient client
IsStepEvent (WriteBack fd) = fd ≤ 255

-- a line within its limits
abbrev pub IsTraceLine : TraceLine → Type 0
IsTraceLine (Step index actor event) = IsWide index × IsActor actor × IsStepEvent event
IsTraceLine (Write write) = IsWrite write
IsTraceLine (CallEntry client number new reply) = IsClient client × IsWide number × IsMade new
IsTraceLine (FlushEntry client ino) = IsClient client × IsNumber32 ino.0
IsTraceLine (PurgeEntry client) = IsClient client
IsTraceLine (Send number packet) = IsWide number × IsPacket packet
IsTraceLine (Answer client number reply) = IsClient client × IsWide number
IsTraceLine (Head block) = IsHead block
IsTraceLine (Halt actor halt) = IsActor actor × IsReason halt
IsTraceLine (Refused line cause) = IsNumber32 line
IsTraceLine (Settled line cycles how) = IsNumber32 line × IsWide cycles
