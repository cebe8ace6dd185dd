use Rattle.std.proofs.Common.{◌≡◌, ℕ, List, Option, Result, sym, subst}
use Rattle.cal_base.specs.declared.identity.ClientId.{ClientId}
use Rattle.cal_base.specs.declared.identity.Ino.{Ino}
use Rattle.tree_law.specs.declared.call.Call.{Call}
use Rattle.tree_law.specs.declared.entry.Entry.TheVariants.{Call as Called}
use Rattle.tree_law.specs.declared.reply.Reply.{Reply}
use Rattle.trace_reader.specs.Adding.{with_entry}
use Rattle.trace_reader.specs.Outcome.{Leads}
use Rattle.trace_reader.specs.Taking.{Changes, TakesCall, TellsReply}
use Rattle.trace_reader.specs.declared.read_error.ReadTraceError.{ReadTraceError}
use Rattle.trace_reader.specs.declared.reading.Reading.{Reading}
use Rattle.trace_reader.proofs.reading.Reading.take_call_entry.Goals as goal

-- the call and the reply that were read are those of the entry
one_reply : (reading after : Reading) (client : ClientId) (number : ℕ) (new : Option Ino) (text : List ℕ) (call : Call) (reply : Reply) (result : Result Unit ReadTraceError)
    → ((other : Call) (another : Reply) → TellsReply reading.calls client number text other another → ◌≡◌ {A = Call × Reply} (call, reply) (other, another))
    → ((next : Reading) → Changes reading (λ step. with_entry step (Called client number call reply new)) next → Leads next after result)
    → (next : Reading) → TakesCall reading client number new text next → Leads next after result
one_reply reading after client number new text call reply result same again next takes =
    again next (subst (λ (told : Call × Reply). Changes reading (λ step. with_entry step (Called client number told.0 told.1 new)) next) (sym (same takes.call takes.reply takes.tells)) takes.changes)

pub returns-clause-again : goal.returns-clause-again
returns-clause-again c = one_reply c.args.self.now _ _ _ _ _ c.in_ok-call.call c.in_ok-call.reply _ c.in_ok-call.ensures.again c.take_entry.ensures.again
