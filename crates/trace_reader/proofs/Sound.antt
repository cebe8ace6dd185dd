-- A line that is taken leaves items that a text can tell.
use Rattle.std.proofs.Common.{◌≡◌, ◌==◌, ◌++◌, inl, inr, ℕ, zero, suc, Bool, true, false, if◌then◌else◌, List, [], ◌∷◌, Option, Some, None, get_or, replicate, slice_set, refl, sym, ap, ◌∙◌, subst, arith, append-nil}
use Rattle.std.proofs.lemmas.Bool.{cases_eq, eq-eqb, ne_eqb}
use Rattle.std.proofs.lemmas.List.{get_or-set_same, get_or-set_other, length-set}
use Rattle.std.proofs.lemmas.List.Elements.{All-nil, All-push}
use Rattle.cal_base.specs.declared.identity.ClientId.{ClientId}
use Rattle.cal_base.specs.declared.identity.NodeId.{NodeId}
use Rattle.cal_base.specs.declared.identity.NodeId.TheVariants.{Client, Server}
use Rattle.tree_law.specs.declared.call.Call.{Call}
use Rattle.tree_law.specs.declared.entry.Entry.TheVariants.{Call as Called, Flush, Purge}
use Rattle.tree_law.specs.declared.reply.Reply.{Reply}
use Rattle.script.specs.Spelling.{IsClient}
use Rattle.cluster_law.specs.Lists.{numbered}
use Rattle.cluster_law.specs.declared.step.Answer.{Answer}
use Rattle.cluster_law.specs.declared.step.Event.{Event}
use Rattle.cluster_law.specs.declared.step.Event.TheVariants.{Start, Deliver, Tick, Crash, NewView, Gone, WriteBack}
use Rattle.cluster_law.specs.declared.step.Halt.{Halt}
use Rattle.cluster_law.specs.declared.step.TraceStep.{TraceStep}
use Rattle.trace_lines.specs.Limits.{IsActor, IsReason, IsWrite}
use Rattle.trace_lines.specs.Lines.{IsStepEvent, IsTraceLine}
use Rattle.trace_lines.specs.declared.line.StepEvent.{StepEvent}
use Rattle.trace_lines.specs.declared.line.StepEvent.TheVariants.{Start as Starts, Deliver as Delivers, Tick as Ticks, Crash as Crashes, NewView as Opens, Gone as Declares, WriteBack as WritesBack}
use Rattle.trace_lines.specs.declared.line.TraceLine.{TraceLine}
use Rattle.trace_lines.specs.declared.line.TraceLine.TheVariants.{Step, Write, CallEntry, FlushEntry, PurgeEntry, Send, Answer as Answers, Head, Halt as Halts, Refused, Settled}
use Rattle.run_trace.specs.Past.{Past, after, after_all, calls_by, calls_with, start}
use Rattle.run_trace.specs.Traces.{AreItems, IsAnswer, IsEntry, IsEvent, IsEventOf, IsHalt, IsItem, IsSent, IsStep}
use Rattle.run_trace.specs.declared.trace.TraceItem.{TraceItem}
use Rattle.run_trace.specs.declared.trace.TraceItem.TheVariants.{Step as StepItem, Refused as RefusedItem, Settled as SettledItem}
use Rattle.trace_reader.specs.Adding.{bare_step, begun, closed, event_of, items_with, no_calls, noted, nothing, passed, with_answer, with_entry, with_halt, with_head, with_sent, with_write}
use Rattle.trace_reader.specs.Taking.{Changes, IsStepOf, Takes, TellsReply}
use Rattle.trace_reader.specs.Whole.{IsSound, IsUnderWay, Knows, calls_now}
use Rattle.trace_reader.specs.declared.reading.Reading.{Reading}

-- one item more

pub after_more : (past : Past) (items : List TraceItem) (item : TraceItem) → after_all past (items ++ item ∷ []) ≡ after (after_all past items) item
unfolding after_all
after_more past [] item = refl
after_more past (first ∷ items) item = after_more (after past first) items item

items_more : (past : Past) (items : List TraceItem) (item : TraceItem) → AreItems past items → IsItem (after_all past items) item → AreItems past (items ++ item ∷ [])
unfolding AreItems after_all
items_more past [] item good is = (is, tt)
items_more past (first ∷ items) item good is = (good.0, items_more (after past first) items item good.1 is)

closed_items : (items : List TraceItem) (step : Option TraceStep) → AreItems start items → IsUnderWay (after_all start items) step → AreItems start (items_with items step)
closed_items items None good is = good
closed_items items (Some step) good is = items_more start items (StepItem step) good is

closed_calls : (items : List TraceItem) (step : Option TraceStep) → (after_all start (items_with items step)).calls ≡ calls_now (after_all start items) step
closed_calls items None = refl
closed_calls items (Some step) = ap (λ (past : Past). past.calls) (after_more start items (StepItem step))

-- the calls of each client

none_of : (n i : ℕ) → get_or {A = List Call} (replicate n []) i [] ≡ []
none_of zero i = refl
none_of (suc n) zero = refl
none_of (suc n) (suc i) = none_of n i

pub knows_nothing : Knows no_calls start.calls
unfolding no_calls
knows_nothing = record { whole = refl; each = λ client is. none_of 16 client.0 }

-- whether the client of this number starts a call, as a choice
chosen : (b : Bool) (call : Call) → b ≡ true → (if b then call ∷ [] else []) ≡ call ∷ []
chosen true call is = refl
chosen false call is = absurd (cc)

other_chosen : (b : Bool) (call : Call) → b ≡ false → (if b then call ∷ [] else []) ≡ []
other_chosen true call is = absurd (cc)
other_chosen false call is = refl

one_noted : (table : List (List Call)) (calls : ClientId → List Call) (starter client : ClientId) (call : Call) → Knows table calls → IsClient starter → IsClient client
    → get_or (slice_set table starter.0 (get_or table starter.0 [] ++ call ∷ [])) client.0 [] ≡ calls client ++ calls_by client (Start starter call)
one_noted table calls starter client call knows is_starter is_client =
    elim (cases_eq client.0 starter.0) as (λ _. get_or (slice_set table starter.0 (get_or table starter.0 [] ++ call ∷ [])) client.0 [] ≡ calls client ++ calls_by client (Start starter call)) [
      | inl same ↦ ap (λ (n : ℕ). get_or (slice_set table starter.0 (get_or table starter.0 [] ++ call ∷ [])) n []) same
          ∙ get_or-set_same table starter.0 (get_or table starter.0 [] ++ call ∷ []) [] (omega (arith, knows.whole, is_starter))
          ∙ ap (λ (n : ℕ). get_or table n [] ++ call ∷ []) (sym same)
          ∙ ap (λ (l : List Call). l ++ call ∷ []) (knows.each client is_client)
          ∙ ap (λ (l : List Call). calls client ++ l) (sym (chosen (client.0 == starter.0) call (eq-eqb client.0 starter.0 same)))
      | inr differs ↦ get_or-set_other table starter.0 client.0 (get_or table starter.0 [] ++ call ∷ []) [] differs
          ∙ knows.each client is_client
          ∙ sym (append-nil (calls client))
          ∙ ap (λ (l : List Call). calls client ++ l) (sym (other_chosen (client.0 == starter.0) call (ne_eqb client.0 starter.0 differs)))
    ]

-- an event that no client starts a call by, or one of a cluster's clients
abbrev pub StartsWell : Event → Type 0
StartsWell (Start client call) = IsClient client
StartsWell (Deliver packet stop) = Unit {0}
StartsWell (Tick node stop) = Unit {0}
StartsWell (Crash node) = Unit {0}
StartsWell (NewView server stop) = Unit {0}
StartsWell (Gone client) = Unit {0}
StartsWell (WriteBack client fd) = Unit {0}

as_before : (table : List (List Call)) (calls : ClientId → List Call) → Knows table calls → (client : ClientId) → IsClient client → get_or table client.0 [] ≡ calls client ++ []
as_before table calls knows client is = knows.each client is ∙ sym (append-nil (calls client))

pub knows_noted : (table : List (List Call)) (past : Past) (event : Event) → StartsWell event → Knows table past.calls → Knows (noted table event) (calls_with past event)
knows_noted table past (Start starter call) is knows = record {
  whole = length-set table starter.0 (get_or table starter.0 [] ++ call ∷ []) ∙ knows.whole;
  each = λ client is_client. one_noted table past.calls starter client call knows is is_client;
}
knows_noted table past (Deliver packet stop) is knows = record { whole = knows.whole; each = as_before table past.calls knows }
knows_noted table past (Tick node stop) is knows = record { whole = knows.whole; each = as_before table past.calls knows }
knows_noted table past (Crash node) is knows = record { whole = knows.whole; each = as_before table past.calls knows }
knows_noted table past (NewView server stop) is knows = record { whole = knows.whole; each = as_before table past.calls knows }
knows_noted table past (Gone client) is knows = record { whole = knows.whole; each = as_before table past.calls knows }
knows_noted table past (WriteBack client fd) is knows = record { whole = knows.whole; each = as_before table past.calls knows }

-- a step begins

record IsTold (actor : Option NodeId) (told : Event) : Type 0 where
  event : IsEvent told
  own : IsEventOf actor told
  starts : StartsWell told

abbrev IfTold : Option NodeId → Option Event → Type 0
IfTold actor None = Unit {0}
IfTold actor (Some told) = IsTold actor told

if_told : (actor : Option NodeId) (event : StepEvent) → IsActor actor → IsStepEvent event → IfTold actor (event_of actor event)
if_told (Some (Client client)) (Starts number call) node is = record { event = is.1; own = refl; starts = node }
if_told (Some (Server server)) (Starts number call) node is = tt
if_told None (Starts number call) node is = tt
if_told (Some actor) (Delivers packet stop) node is = record { event = is; own = refl; starts = tt }
if_told None (Delivers packet stop) node is = tt
if_told (Some actor) (Ticks stop) node is = record { event = is; own = refl; starts = tt }
if_told None (Ticks stop) node is = tt
if_told (Some actor) Crashes node is = record { event = tt; own = refl; starts = tt }
if_told None Crashes node is = tt
if_told (Some (Server server)) (Opens view stop) node is = record { event = is.1; own = refl; starts = tt }
if_told (Some (Client client)) (Opens view stop) node is = tt
if_told None (Opens view stop) node is = tt
if_told (Some actor) (Declares client) node is = tt
if_told None (Declares client) node is = record { event = is; own = refl; starts = tt }
if_told (Some (Client client)) (WritesBack fd) node is = record { event = is; own = refl; starts = tt }
if_told (Some (Server server)) (WritesBack fd) node is = tt
if_told None (WritesBack fd) node is = tt

bare_is_step : (past : Past) (actor : Option NodeId) (told : Event) → IsActor actor → IsTold actor told → IsStep past (bare_step actor told)
bare_is_step past actor told node is = record {
  actor = node;
  event = is.event;
  own = is.own;
  writes = All-nil IsWrite;
  entries = All-nil (IsEntry (calls_with past told));
  sent = All-nil IsSent;
  answer = tt;
  head = tt;
  halt = tt;
}

begun_sound : (r : Reading) (actor : Option NodeId) (told : Event) → IsActor actor → IsTold actor told → IsSound r → IsSound (begun r actor told)
begun_sound r actor told node is sound = record {
  items = closed_items r.items r.step sound.items sound.step;
  step = bare_is_step _ actor told node is;
  knows = knows_noted r.calls (after_all start (closed r)) told is.starts (subst (λ (calls : ClientId → List Call). Knows r.calls calls) (sym (closed_calls r.items r.step)) sound.knows);
}

-- an item that is no step

passed_sound : (r : Reading) (item : TraceItem) → ((past : Past) → IsItem past item) → ((past : Past) → (after past item).calls ≡ past.calls) → IsSound r → IsSound (passed r item)
passed_sound r item is same sound = record {
  items = items_more start (closed r) item (closed_items r.items r.step sound.items sound.step) (is (after_all start (closed r)));
  step = tt;
  knows = subst (λ (calls : ClientId → List Call). Knows r.calls calls)
      (sym (ap (λ (past : Past). past.calls) (after_more start (closed r) item) ∙ same (after_all start (closed r)) ∙ closed_calls r.items r.step)) sound.knows;
}

-- a line of the step under way

changed_sound : (r next : Reading) (change : TraceStep → TraceStep) → ((step : TraceStep) → (change step).event ≡ step.event)
    → ((past : Past) (step : TraceStep) → r.step ≡ Some step → Knows r.calls (calls_with past step.event) → IsStep past step → IsStep past (change step)) → Changes r change next → IsSound r → IsSound next
changed_sound r next change same keeps changes sound =
    let past : Past = after_all start r.items in
    let is : IsStep past changes.step = subst (λ (o : Option TraceStep). IsUnderWay past o) changes.is sound.step in
    let knows : Knows r.calls (calls_with past changes.step.event) = subst (λ (o : Option TraceStep). Knows r.calls (calls_now past o)) changes.is sound.knows in
    subst IsSound (sym changes.next_is) (record {
      items = sound.items;
      step = keeps past changes.step changes.is knows is;
      knows = subst (λ (event : Event). Knows r.calls (calls_with past event)) (sym (same changes.step)) knows;
    })

entry_kept : (past : Past) (step : TraceStep) (one : _) → IsEntry (calls_with past step.event) one → IsStep past step → IsStep past (with_entry step one)
entry_kept past step one is good = record { actor = good.actor; event = good.event; own = good.own; writes = good.writes; entries = All-push (IsEntry (calls_with past step.event)) step.entries one good.entries is; sent = good.sent; answer = good.answer; head = good.head; halt = good.halt }

told_entry : (table : List (List Call)) (calls : ClientId → List Call) (client : ClientId) (number : ℕ) (text : List ℕ) (call : Call) (reply : Reply) → Knows table calls → IsClient client → TellsReply table client number text call reply
    → numbered (calls client) number ≡ Some call
told_entry table calls client number text call reply knows is tells = ap (λ (l : List Call). numbered l number) (sym (knows.each client is)) ∙ tells.started

same_step : (r : Reading) (step : TraceStep) (node : NodeId) → r.step ≡ Some step → IsStepOf r node → step.node ≡ Some node
same_step r step node is own = let e : own.step ≡ step = cc in ap (λ (s : TraceStep). s.node) (sym e) ∙ own.node_is

answer_is : (calls : ClientId → List Call) (node : Option NodeId) (client : ClientId) (answer : Answer) → node ≡ Some (Client client) → IsAnswer calls (Some (Client client)) (Some answer) → IsAnswer calls node (Some answer)
answer_is calls actor client answer is good = subst (λ (n : Option NodeId). IsAnswer calls n (Some answer)) (sym is) good

halt_is : (node : Option NodeId) (server : _) (halt : Halt) → node ≡ Some (Server server) → IsReason halt → IsHalt node (Some halt)
halt_is actor server halt is good = subst (λ (n : Option NodeId). IsHalt n (Some halt)) (sym is) good

pub takes_sound : (r next : Reading) (line : TraceLine) → IsTraceLine line → Takes r line next → IsSound r → IsSound next
takes_sound r next (Step index actor event) is takes sound =
    subst IsSound (sym takes.next_is) (begun_sound r actor takes.told is.1 (subst (λ (o : Option Event). IfTold actor o) takes.is (if_told actor event is.1 is.2)) sound)
takes_sound r next (Write write) is takes sound =
    changed_sound r next (λ step. with_write step write) (λ step. refl) (λ past step same knows good. record { actor = good.actor; event = good.event; own = good.own; writes = All-push IsWrite step.writes write good.writes is; entries = good.entries; sent = good.sent; answer = good.answer; head = good.head; halt = good.halt }) takes sound
takes_sound r next (CallEntry client number new text) is takes sound =
    changed_sound r next (λ step. with_entry step (Called client number takes.call takes.reply new)) (λ step. refl)
    (λ past step same knows good. entry_kept past step _ (is.0, is.1, is.2, told_entry r.calls (calls_with past step.event) client number text takes.call takes.reply knows is.0 takes.tells, takes.tells.kind) good) takes.changes sound
takes_sound r next (FlushEntry client ino) is takes sound = changed_sound r next (λ step. with_entry step (Flush client ino)) (λ step. refl) (λ past step same knows good. entry_kept past step _ is good) takes sound
takes_sound r next (PurgeEntry client) is takes sound = changed_sound r next (λ step. with_entry step (Purge client)) (λ step. refl) (λ past step same knows good. entry_kept past step _ is good) takes sound
takes_sound r next (Send number packet) is takes sound =
    changed_sound r next (λ step. with_sent step packet) (λ step. refl) (λ past step same knows good. record { actor = good.actor; event = good.event; own = good.own; writes = good.writes; entries = good.entries; sent = All-push IsSent step.sent packet good.sent (is.1, takes.body); answer = good.answer; head = good.head; halt = good.halt }) takes.changes sound
takes_sound r next (Answers client number text) is takes sound =
    changed_sound r next (λ step. with_answer step (record { number = number; reply = takes.reply })) (λ step. refl)
    (λ past step same knows good. record {
      actor = good.actor;
      event = good.event;
      own = good.own;
      writes = good.writes;
      entries = good.entries;
      sent = good.sent;
      answer = answer_is (calls_with past step.event) step.node client _ (same_step r step (Client client) same takes.own)
          (is.1, record { call = takes.call; is = told_entry r.calls (calls_with past step.event) client number text takes.call takes.reply knows is.0 takes.tells; reply = takes.tells.kind });
      head = good.head;
      halt = good.halt;
    }) takes.changes sound
takes_sound r next (Head block) is takes sound = changed_sound r next (λ step. with_head step block) (λ step. refl) (λ past step same knows good. record { actor = good.actor; event = good.event; own = good.own; writes = good.writes; entries = good.entries; sent = good.sent; answer = good.answer; head = is; halt = good.halt }) takes sound
takes_sound r next (Halts actor halt) is takes sound =
    changed_sound r next (λ step. with_halt step halt) (λ step. refl)
    (λ past step same knows good. record { actor = good.actor; event = good.event; own = good.own; writes = good.writes; entries = good.entries; sent = good.sent; answer = good.answer; head = good.head; halt = halt_is step.node takes.server halt (same_step r step (Server takes.server) same takes.own) is.1 }) takes.changes sound
takes_sound r next (Refused line cause) is takes sound = subst IsSound (sym takes) (passed_sound r (RefusedItem line cause) (λ past. is) (λ past. refl) sound)
takes_sound r next (Settled line cycles how) is takes sound = subst IsSound (sym takes) (passed_sound r (SettledItem line cycles how) (λ past. is) (λ past. refl) sound)

pub nothing_sound : IsSound nothing
unfolding AreItems after_all
nothing_sound = record { items = tt; step = tt; knows = knows_nothing }

-- what was read is closed
pub closed_sound : (r : Reading) → IsSound r → AreItems start (closed r)
closed_sound r sound = closed_items r.items r.step sound.items sound.step
