-- The event of a step, from its words.
use Rattle.std.specs.Prelude.{ℕ, List, [], ◌∷◌, if◌then◌else◌, Option, Some, None, Result, Ok, codes, bytes_eq}
use Rattle.shared_disk.specs.declared.stop.Stop.{Stop}
use Rattle.line_words.specs.Outcome.{outside, then_read}
use Rattle.line_words.specs.Places.{number_of, client_of, call_of}
use Rattle.line_words.specs.Words.{first_as}
use Rattle.line_words.specs.declared.read_error.OutOfForm.{OutOfForm}
use Rattle.trace_lines.specs.Places.{number32_of, descriptor_of, view_of}
use Rattle.trace_lines.specs.Sectors.{torn_of}
use Rattle.trace_lines.specs.Words.{one_word, alone}
use Rattle.trace_lines.specs.declared.line.StepEvent.{StepEvent}
use Rattle.trace_lines.specs.declared.line.StepEvent.TheVariants.{Start, Deliver, Tick, Crash, NewView, Gone, WriteBack}

-- `K HOW` behind `stop`
abbrev pub armed_in : List (List ℕ) → Result (Option Stop) OutOfForm
armed_in words =
    then_read (first_as number32_of words) (λ after.
    then_read (one_word after.1) (λ word.
    then_read (torn_of word) (λ torn.
    Ok (Some (record { after = after.0; torn = torn })))))

-- `stop K HOW`, or nothing
abbrev pub stop_in : List (List ℕ) → Result (Option Stop) OutOfForm
stop_in [] = Ok None
stop_in (word ∷ behind) = if bytes_eq word (codes "stop") then armed_in behind else outside

-- `N CALL`
abbrev pub start_in : List (List ℕ) → Result StepEvent OutOfForm
start_in words =
    then_read (first_as number_of words) (λ number.
    then_read (call_of number.1) (λ call.
    Ok (Start number.0 call)))

-- `P STOP`
abbrev pub deliver_in : List (List ℕ) → Result StepEvent OutOfForm
deliver_in words =
    then_read (first_as number_of words) (λ packet.
    then_read (stop_in packet.1) (λ stop.
    Ok (Deliver packet.0 stop)))

-- `STOP`
abbrev pub tick_in : List (List ℕ) → Result StepEvent OutOfForm
tick_in words = then_read (stop_in words) (λ stop. Ok (Tick stop))

abbrev pub crash_in : List (List ℕ) → Result StepEvent OutOfForm
crash_in words = alone Crash words

-- `V STOP`
abbrev pub view_in : List (List ℕ) → Result StepEvent OutOfForm
view_in words =
    then_read (first_as view_of words) (λ view.
    then_read (stop_in view.1) (λ stop.
    Ok (NewView view.0 stop)))

-- `cX`
abbrev pub gone_in : List (List ℕ) → Result StepEvent OutOfForm
gone_in words =
    then_read (one_word words) (λ word.
    then_read (client_of word) (λ client.
    Ok (Gone client)))

-- `F`
abbrev pub write_back_in : List (List ℕ) → Result StepEvent OutOfForm
write_back_in words =
    then_read (one_word words) (λ word.
    then_read (descriptor_of word) (λ fd.
    Ok (WriteBack fd)))

-- an event, by its first word
abbrev pub event_in : List (List ℕ) → Result StepEvent OutOfForm
event_in [] = outside
event_in (word ∷ behind) =
    if bytes_eq word (codes "start") then start_in behind
    else if bytes_eq word (codes "deliver") then deliver_in behind
    else if bytes_eq word (codes "tick") then tick_in behind
    else if bytes_eq word (codes "crash") then crash_in behind
    else if bytes_eq word (codes "view") then view_in behind
    else if bytes_eq word (codes "gone") then gone_in behind
    else if bytes_eq word (codes "writeback") then write_back_in behind
    else outside
