-- What items come to, by numbers alone.
use Rattle.std.specs.Prelude.{◌≡◌, ◌+◌, ℕ, List, length, get_or, ⊤}
use Rattle.cal_base.specs.declared.identity.ClientId.{ClientId}
use Rattle.script.specs.Spelling.{IsClient}
use Rattle.cluster_law.specs.declared.step.Event.{Event}
use Rattle.cluster_law.specs.declared.step.Event.TheVariants.{Start, Deliver, Tick, Crash, NewView, Gone, WriteBack}
use Rattle.run_trace.specs.Past.{Past, calls_by}
use Rattle.run_trace.specs.declared.trace.TraceItem.{TraceItem}
use Rattle.run_trace.specs.declared.trace.TraceItem.TheVariants.{Step, Refused, Settled}
use Rattle.run_trace.specs.declared.counts.Counts.{Counts}

-- these numbers are those of what stands before an item
pub record IsCounted (past : Past) (counts : Counts) : Type 0 where
  pub steps : counts.steps ≡ past.steps
  pub packets : counts.packets ≡ past.packets
  pub view : counts.view ≡ past.view
  pub calls : (client : ClientId) → IsClient client → get_or counts.calls client.0 0 ≡ length (past.calls client)

-- a call is started by a client of a cluster
abbrev pub StartsAtClient : Event → Type 0
StartsAtClient (Start client call) = IsClient client
StartsAtClient (Deliver packet stop) = ⊤
StartsAtClient (Tick node stop) = ⊤
StartsAtClient (Crash node) = ⊤
StartsAtClient (NewView server stop) = ⊤
StartsAtClient (Gone client) = ⊤
StartsAtClient (WriteBack client fd) = ⊤

-- counts of calls by client, before an event and behind it
abbrev pub CountsCalls : List ℕ → Event → List ℕ → Type 0
CountsCalls calls event next = (client : ClientId) → IsClient client → get_or next client.0 0 ≡ get_or calls client.0 0 + length (calls_by client event)

-- a step's call, if an item is a step that starts one, is started by a client of a cluster
abbrev pub ItemStartsAtClient : TraceItem → Type 0
ItemStartsAtClient (Step step) = StartsAtClient step.event
ItemStartsAtClient (Refused line cause) = ⊤
ItemStartsAtClient (Settled line cycles how) = ⊤
