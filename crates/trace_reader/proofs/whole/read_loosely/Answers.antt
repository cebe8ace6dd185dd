use Rattle.std.proofs.Common.{◌≡◌, ℕ, List, ◌∙◌}
use Rattle.run_trace.specs.declared.trace.Trace.{Trace}
use Rattle.run_trace.specs.declared.trace.TraceItem.{TraceItem}
use Rattle.trace_reader.specs.Adding.{closed}
use Rattle.trace_reader.proofs.Answering.{same_error}
use Rattle.trace_reader.proofs.Opening.{opened}
use Rattle.trace_reader.proofs.whole.read_loosely.Goals as goal

same_trace : (clients window : ℕ) (items : List TraceItem) (trace : Trace) → ◌≡◌ {A = ℕ × ℕ} (clients, window) (trace.clients, trace.window) → items ≡ trace.items → ◌≡◌ {A = Trace} (record { clients = clients; window = window; items = items }) trace
same_trace clients window items trace first is = λ i. record { clients = (first i).0; window = (first i).1; items = is i }

pub returns-in-Ok-read_items-clause-again : goal.returns-in-Ok-read_items-clause-again
returns-in-Ok-read_items-clause-again c trace is e =
    let o = opened trace _ _ c.cut_at.result.1 is e c.cut_at.ensures.parts in
    same_trace c.in-Ok.clients c.in-Ok.window c.in-Ok-read_items.items trace (c.in-Ok.ensures.again (trace.clients, trace.window) o.run o.spelled) (c.in-Ok-read_items.ensures.again o.last o.awaits ∙ o.closed_is)

pub returns-in-Err-read_items-clause-again : goal.returns-in-Err-read_items-clause-again
returns-in-Err-read_items-clause-again c trace is e =
    let o = opened trace _ _ c.cut_at.result.1 is e c.cut_at.ensures.parts in same_error (closed o.last) trace c.in-Err-read_items.error (c.in-Err-read_items.ensures.again o.last o.awaits)

pub returns-in-Err-clause-again : goal.returns-in-Err-clause-again
returns-in-Err-clause-again c trace is e =
    let o = opened trace _ _ c.cut_at.result.1 is e c.cut_at.ensures.parts in same_error {T = ℕ × ℕ} (trace.clients, trace.window) trace c.in-Err.error (c.in-Err.ensures.again (trace.clients, trace.window) o.run o.spelled)
