-- The first line of a run, its last, and the lines between steps.
use Rattle.std.specs.Prelude.{ℕ, List, ◌++◌, codes}
use Rattle.std.specs.Fmt.{decimal}
use Rattle.trace_text.specs.declared.runs.Cause.{Cause}
use Rattle.trace_text.specs.declared.runs.Cause.TheVariants.{NoSuch, NoPacket, Dead, Busy, Alive}
use Rattle.trace_text.specs.declared.runs.Settled.{Settled}
use Rattle.trace_text.specs.declared.runs.Settled.TheVariants.{Idle, Stuck, Spent}

-- the first line: how many clients there are, and how many of them a server asks at a time
abbrev pub run_line : ℕ → ℕ → List ℕ
run_line clients window = codes "run clients " ++ decimal clients ++ codes " window " ++ decimal window

abbrev pub cause_word : Cause → List ℕ
cause_word NoSuch = codes "NoSuch"
cause_word NoPacket = codes "NoPacket"
cause_word Dead = codes "Dead"
cause_word Busy = codes "Busy"
cause_word Alive = codes "Alive"

-- the event of this line of the script is refused
abbrev pub refused_line : ℕ → Cause → List ℕ
refused_line line cause = codes "refused " ++ decimal line ++ codes " " ++ cause_word cause

abbrev pub settled_word : Settled → List ℕ
settled_word Idle = codes "idle"
settled_word Stuck = codes "stuck"
settled_word Spent = codes "spent"

-- the `settle` of this line of the script ends after so many cycles
abbrev pub settled_line : ℕ → ℕ → Settled → List ℕ
settled_line line cycles how = codes "settled " ++ decimal line ++ codes " " ++ decimal cycles ++ codes " " ++ settled_word how

-- the last line: how many steps there were
abbrev pub end_line : ℕ → List ℕ
end_line steps = codes "end " ++ decimal steps
