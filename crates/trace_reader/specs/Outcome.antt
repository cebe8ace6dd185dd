-- What reading answers.
use Rattle.std.specs.Prelude.{◌≡◌, Result, Ok, Err, ⊤}
use Rattle.trace_reader.specs.declared.read_error.ReadTraceError.{ReadTraceError}
use Rattle.trace_reader.specs.declared.read_error.ReadTraceError.TheVariants.{BadTrace, OutOfMemory}

-- this value, unless memory ran out
abbrev pub GivesTrace : {T : Type 0} → T → Result T ReadTraceError → Type 0
GivesTrace value (Ok other) = other ≡ value
GivesTrace value (Err BadTrace) = ⊥
GivesTrace value (Err OutOfMemory) = ⊤

-- this state, unless memory ran out
abbrev pub Leads : {S : Type 0} → S → S → Result Unit ReadTraceError → Type 0
Leads wanted next (Ok done) = next ≡ wanted
Leads wanted next (Err BadTrace) = ⊥
Leads wanted next (Err OutOfMemory) = ⊤
