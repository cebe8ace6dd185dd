-- From what the lines are to what is answered.
use Rattle.std.proofs.Common.{◌≡◌, ℕ, List, Err, sym, ap, ◌∙◌, subst}
use Rattle.run_trace.specs.Past.{start}
use Rattle.run_trace.specs.Traces.{AreItems}
use Rattle.run_trace.specs.declared.trace.TraceItem.{TraceItem}
use Rattle.trace_reader.specs.Adding.{closed, nothing}
use Rattle.trace_reader.specs.Outcome.{GivesTrace, Leads}
use Rattle.trace_reader.specs.Whole.{Awaits, IsSound}
use Rattle.trace_reader.specs.declared.read_error.ReadTraceError.{ReadTraceError}
use Rattle.trace_reader.specs.declared.read_error.ReadTraceError.TheVariants.{BadTrace, OutOfMemory}
use Rattle.trace_reader.specs.declared.reading.Reading.{Reading}
use Rattle.trace_reader.proofs.Sound.{closed_sound, nothing_sound}

pub items_good : (items : List TraceItem) (first after : Reading) → first ≡ nothing → (IsSound first → IsSound after) → items ≡ closed after → AreItems start items
items_good items first after is sound closes = subst (λ l. AreItems start l) (sym closes) (closed_sound after (sound (subst IsSound (sym is) nothing_sound)))

from_nothing : (left : List (List ℕ)) (first last : Reading) → first ≡ nothing → Awaits left nothing last → Awaits left first last
from_nothing left first last is awaits = subst (λ (r : Reading). Awaits left r last) (sym is) awaits

pub items_again : (left : List (List ℕ)) (items : List TraceItem) (first after : Reading) → first ≡ nothing → ((last : Reading) → Awaits left first last → after ≡ last) → items ≡ closed after → (last : Reading) → Awaits left nothing last → items ≡ closed last
items_again left items first after is again closes last awaits = closes ∙ ap closed (again last (from_nothing left first last is awaits))

-- an error is handed on
pub same_error : {T U : Type 0} → (value : T) (other : U) (error : ReadTraceError) → GivesTrace value (Err error) → GivesTrace other (Err error)
same_error value other BadTrace gives = gives
same_error value other OutOfMemory gives = tt

pub none_again : (left : List (List ℕ)) (first after : Reading) (error : ReadTraceError) → first ≡ nothing → ((last : Reading) → Awaits left first last → Leads last after (Err error)) → (last : Reading) → Awaits left nothing last
    → GivesTrace (closed last) (Err error)
none_again left first after BadTrace is again last awaits = again last (from_nothing left first last is awaits)
none_again left first after OutOfMemory is again last awaits = tt
