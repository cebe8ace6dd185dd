-- The lines of a run lead to the run.
use Rattle.std.proofs.Common.{◌≡◌, ◌==◌, ◌+◌, ◌<◌, ◌≤◌, ◌^◌, ◌++◌, if◌then◌else◌, ℕ, suc, Bool, true, false, List, [], ◌∷◌, All, Option, Some, None, length, refl, sym, ap, ◌∙◌, subst, arith, append_assoc, append-nil}
use Rattle.std.proofs.lemmas.List.{length-append}
use Rattle.cal_base.specs.declared.identity.ClientId.{ClientId}
use Rattle.cal_base.specs.declared.identity.NodeId.{NodeId}
use Rattle.cal_base.specs.declared.identity.NodeId.TheVariants.{Client, Server}
use Rattle.tree_law.specs.declared.call.Call.{Call}
use Rattle.tree_law.specs.declared.entry.Entry.{Entry}
use Rattle.tree_law.specs.declared.entry.Entry.TheVariants.{Call as Called, Flush, Purge}
use Rattle.tree_law.specs.declared.reply.Reply.{Reply}
use Rattle.token_kind.specs.declared.block.Block.{Block}
use Rattle.session.specs.declared.packet.Packet.{Packet}
use Rattle.reply_text.specs.Text.{reply_text}
use Rattle.script.specs.Spelling.{IsClient, IsWide}
use Rattle.cluster_law.specs.Lists.{numbered}
use Rattle.cluster_law.specs.declared.step.Answer.{Answer}
use Rattle.cluster_law.specs.declared.step.Event.{Event}
use Rattle.cluster_law.specs.declared.step.Event.TheVariants.{Start, Deliver, Tick, Crash, NewView, Gone, WriteBack}
use Rattle.cluster_law.specs.declared.step.Halt.{Halt}
use Rattle.cluster_law.specs.declared.step.TraceStep.{TraceStep}
use Rattle.reply_words.specs.Limits.{IsReplyOf}
use Rattle.trace_lines.specs.Limits.{IsActor, IsWrite}
use Rattle.trace_lines.specs.Lines.{IsStepEvent}
use Rattle.trace_lines.specs.declared.line.TraceLine.{TraceLine}
use Rattle.trace_lines.specs.declared.line.TraceLine.TheVariants.{Refused, Settled}
use Rattle.run_trace.specs.Past.{Past, after_all, after_step, calls_by, calls_with, number_of, views_by}
use Rattle.run_trace.specs.Traces.{AreItems, IsAnswer, IsBlocked, IsEntry, IsEvent, IsEventOf, IsHalt, IsSent, IsStep}
use Rattle.run_trace.specs.declared.trace.TraceItem.{TraceItem}
use Rattle.run_trace.specs.declared.trace.TraceItem.TheVariants.{Step as StepItem, Refused as RefusedItem, Settled as SettledItem}
use Rattle.trace_reader.specs.Adding.{bare_step, begun, closed, event_of, in_step, noted, passed, with_answer, with_entry, with_halt, with_head, with_sent, with_write}
use Rattle.trace_reader.specs.Taking.{Changes, TellsReply}
use Rattle.trace_reader.specs.Whole.{Goes, GoesBy, Knows}
use Rattle.trace_reader.specs.declared.reading.Reading.{Reading}
use Rattle.trace_reader.proofs.Sound.{StartsWell, knows_noted}
use Rattle.trace_reader.proofs.TraceTexts.{answer_lines, entry_as, entry_lines, first_line, halt_lines, head_lines, items_lines, more_lines, send_lines, told_as, write_lines}

goes_append : (first second : List TraceLine) (r middle last : Reading) → Goes r first middle → Goes middle second last → Goes r (first ++ second) last
goes_append [] second r middle last goes on = subst (λ (m : Reading). Goes m second last) goes on
goes_append (line ∷ first) second r middle last goes on = (goes.0, goes.1, goes_append first second goes.0 middle last goes.2 on)

-- a change of the step under way
changes : (r : Reading) (step : TraceStep) (change : TraceStep → TraceStep) → Changes (in_step r step) change (in_step r (change step))
changes r step change = record { step = step; is = refl; next_is = refl }

tail_of : {X : Type 0} → (P : X → Type 0) (x : X) (xs : List X) → All P (x ∷ xs) → All P xs
tail_of P x xs all k d l = all (suc k) d (omega (arith, l))

head_of : {X : Type 0} → (P : X → Type 0) (x : X) (xs : List X) → All P (x ∷ xs) → P x
head_of P x xs all = all 0 x (omega arith)

-- writes

abbrev with_writes : TraceStep → List (ℕ × List ℕ) → TraceStep
with_writes step writes = record step { writes = step.writes ++ writes }

goes_writes : (r : Reading) (step : TraceStep) (writes : List (ℕ × List ℕ)) → All IsWrite writes → Goes (in_step r step) (write_lines writes) (in_step r (with_writes step writes))
goes_writes r step [] good = ap (λ (l : List (ℕ × List ℕ)). in_step r (record step { writes = l })) (append-nil step.writes)
goes_writes r step (write ∷ writes) good = (
  in_step r (with_write step write),
  record { is = head_of IsWrite write writes good; takes = changes r step (λ s. with_write s write) },
  subst (λ (l : List (ℕ × List ℕ)). Goes (in_step r (with_write step write)) (write_lines writes) (in_step r (record step { writes = l }))) (append_assoc step.writes (write ∷ []) writes)
      (goes_writes r (with_write step write) writes (tail_of IsWrite write writes good)),
)

-- entries

abbrev with_entries : TraceStep → List Entry → TraceStep
with_entries step entries = record step { entries = step.entries ++ entries }

known_reply : (table : List (List Call)) (calls : ClientId → List Call) (client : ClientId) (number : ℕ) (call : Call) (reply : Reply) → Knows table calls → IsClient client → numbered (calls client) number ≡ Some call → IsReplyOf call reply
    → TellsReply table client number (reply_text reply) call reply
known_reply table calls client number call reply knows is started kind = record { started = ap (λ (l : List Call). numbered l number) (knows.each client is) ∙ started; kind = kind; spelled = refl }

goes_entry : (r : Reading) (step : TraceStep) (calls : ClientId → List Call) (one : Entry) → Knows r.calls calls → IsEntry calls one → GoesBy (entry_as one) (in_step r step) (in_step r (with_entry step one))
goes_entry r step calls (Called client number call reply new) knows is = record {
  is = (is.0, is.1, is.2);
  takes = record { call = call; reply = reply; tells = known_reply r.calls calls client number call reply knows is.0 is.3 is.4; changes = changes r step (λ s. with_entry s (Called client number call reply new)) };
}
goes_entry r step calls (Flush client ino) knows is = record { is = is; takes = changes r step (λ s. with_entry s (Flush client ino)) }
goes_entry r step calls (Purge client) knows is = record { is = is; takes = changes r step (λ s. with_entry s (Purge client)) }

goes_entries : (r : Reading) (step : TraceStep) (calls : ClientId → List Call) (entries : List Entry) → Knows r.calls calls → All (IsEntry calls) entries → Goes (in_step r step) (entry_lines entries) (in_step r (with_entries step entries))
goes_entries r step calls [] knows good = ap (λ (l : List Entry). in_step r (record step { entries = l })) (append-nil step.entries)
goes_entries r step calls (one ∷ entries) knows good = (
  in_step r (with_entry step one),
  goes_entry r step calls one knows (head_of (IsEntry calls) one entries good),
  subst (λ (l : List Entry). Goes (in_step r (with_entry step one)) (entry_lines entries) (in_step r (record step { entries = l }))) (append_assoc step.entries (one ∷ []) entries)
      (goes_entries r (with_entry step one) calls entries knows (tail_of (IsEntry calls) one entries good)),
)

-- packets

abbrev with_all_sent : TraceStep → List Packet → TraceStep
with_all_sent step packets = record step { sent = step.sent ++ packets }

goes_sends : (r : Reading) (step : TraceStep) (number : ℕ) (packets : List Packet) → number + length packets < 2 ^ 64 → All IsSent packets → Goes (in_step r step) (send_lines number packets) (in_step r (with_all_sent step packets))
goes_sends r step number [] few good = ap (λ (l : List Packet). in_step r (record step { sent = l })) (append-nil step.sent)
goes_sends r step number (packet ∷ packets) few good = (
  in_step r (with_sent step packet),
  record {
    is = (omega (arith, few), (head_of IsSent packet packets good).0);
    takes = record { body = (head_of IsSent packet packets good).1; changes = changes r step (λ s. with_sent s packet) };
  },
  subst (λ (l : List Packet). Goes (in_step r (with_sent step packet)) (send_lines (number + 1) packets) (in_step r (record step { sent = l }))) (append_assoc step.sent (packet ∷ []) packets)
      (goes_sends r (with_sent step packet) (number + 1) packets (omega (arith, few)) (tail_of IsSent packet packets good)),
)

-- the answer, the head and the halt

goes_answer : (r : Reading) (step : TraceStep) (calls : ClientId → List Call) (actor : Option NodeId) (answer : Option Answer) → step.node ≡ actor → step.answer ≡ None → Knows r.calls calls → IsActor actor → IsAnswer calls actor answer
    → Goes (in_step r step) (answer_lines actor answer) (in_step r (record step { answer = answer }))
goes_answer r step calls actor None node none knows is good = ap (λ (o : Option Answer). in_step r (record step { answer = o })) (sym none)
goes_answer r step calls (Some (Client client)) (Some answer) node none knows is good = (
  in_step r (with_answer step answer),
  record {
    is = (is, good.0);
    takes = record {
      call = good.1.call;
      reply = answer.reply;
      tells = known_reply r.calls calls client answer.number good.1.call answer.reply knows is good.1.is good.1.reply;
      own = record { step = step; is = refl; node_is = node };
      changes = changes r step (λ s. with_answer s answer);
    };
  },
  refl,
)
goes_answer r step calls (Some (Server server)) (Some answer) node none knows is good = absurd good
goes_answer r step calls None (Some answer) node none knows is good = absurd good

goes_head : (r : Reading) (step : TraceStep) (head : Option Block) → step.head ≡ None → IsBlocked head → Goes (in_step r step) (head_lines head) (in_step r (record step { head = head }))
goes_head r step None none good = ap (λ (o : Option Block). in_step r (record step { head = o })) (sym none)
goes_head r step (Some block) none good = (in_step r (with_head step block), record { is = good; takes = changes r step (λ s. with_head s block) }, refl)

goes_halt : (r : Reading) (step : TraceStep) (actor : Option NodeId) (halt : Option Halt) → step.node ≡ actor → step.halt ≡ None → IsActor actor → IsHalt actor halt → Goes (in_step r step) (halt_lines actor halt) (in_step r (record step { halt = halt }))
goes_halt r step actor None node none is good = ap (λ (o : Option Halt). in_step r (record step { halt = o })) (sym none)
goes_halt r step (Some (Server server)) (Some halt) node none is good = (
  in_step r (with_halt step halt),
  record {
    is = (is, good);
    takes = record { server = server; own = record { step = step; is = refl; node_is = node }; changes = changes r step (λ s. with_halt s halt) };
  },
  refl,
)
goes_halt r step (Some (Client client)) (Some halt) node none is good = absurd good
goes_halt r step None (Some halt) node none is good = absurd good

-- all lines of a step behind its first
goes_more : (r : Reading) (past : Past) (step : TraceStep) → IsStep past step → Knows r.calls (calls_with past step.event) → past.packets + length step.sent < 2 ^ 64
    → Goes (in_step r (bare_step step.node step.event)) (more_lines past.packets step) (in_step r step)
goes_more r past step good knows few =
    let bare = bare_step step.node step.event in
    let wrote = with_writes bare step.writes in
    let entered = with_entries wrote step.entries in
    let sent = with_all_sent entered step.sent in
    let answered : TraceStep = record sent { answer = step.answer } in
    let headed : TraceStep = record answered { head = step.head } in
    goes_append (write_lines step.writes ++ entry_lines step.entries ++ send_lines past.packets step.sent ++ answer_lines step.node step.answer ++ head_lines step.head) (halt_lines step.node step.halt) (in_step r bare) (in_step r headed) (in_step r step)
    (goes_append (write_lines step.writes ++ entry_lines step.entries ++ send_lines past.packets step.sent ++ answer_lines step.node step.answer) (head_lines step.head) (in_step r bare) (in_step r answered) (in_step r headed)
    (goes_append (write_lines step.writes ++ entry_lines step.entries ++ send_lines past.packets step.sent) (answer_lines step.node step.answer) (in_step r bare) (in_step r sent) (in_step r answered)
    (goes_append (write_lines step.writes ++ entry_lines step.entries) (send_lines past.packets step.sent) (in_step r bare) (in_step r entered) (in_step r sent)
    (goes_append (write_lines step.writes) (entry_lines step.entries) (in_step r bare) (in_step r wrote) (in_step r entered)
    (goes_writes r bare step.writes good.writes)
    (goes_entries r wrote (calls_with past step.event) step.entries knows good.entries))
    (goes_sends r entered past.packets step.sent few good.sent))
    (goes_answer r sent (calls_with past step.event) step.node step.answer refl refl knows good.actor good.answer))
    (goes_head r answered step.head refl good.head))
    (goes_halt r headed step.node step.halt refl refl good.actor good.halt)

-- the first line of a step

told_event : (actor : Option NodeId) (number view : ℕ) (event : Event) → IsEventOf actor event → event_of actor (told_as number view event) ≡ Some event
told_event actor number view (Start client call) own = ap (λ (o : Option NodeId). event_of o (told_as number view (Start client call))) own
told_event (Some node) number view (Deliver packet stop) own = refl
told_event None number view (Deliver packet stop) own = absurd (cc)
told_event actor number view (Tick node stop) own = ap (λ (o : Option NodeId). event_of o (told_as number view (Tick node stop))) own
told_event actor number view (Crash node) own = ap (λ (o : Option NodeId). event_of o (told_as number view (Crash node))) own
told_event actor number view (NewView server stop) own = ap (λ (o : Option NodeId). event_of o (told_as number view (NewView server stop))) own
told_event actor number view (Gone client) own = ap (λ (o : Option NodeId). event_of o (told_as number view (Gone client))) own
told_event actor number view (WriteBack client fd) own = ap (λ (o : Option NodeId). event_of o (told_as number view (WriteBack client fd))) own

told_good : (number before : ℕ) (event : Event) → IsWide number → before + views_by event < 2 ^ 64 → IsEvent event → IsStepEvent (told_as number (before + 1) event)
told_good number before (Start client call) wide few is = (wide, is)
told_good number before (Deliver packet stop) wide few is = is
told_good number before (Tick node stop) wide few is = is
told_good number before (Crash node) wide few is = tt
told_good number before (NewView server stop) wide few is = (omega (arith, few), is)
told_good number before (Gone client) wide few is = is
told_good number before (WriteBack client fd) wide few is = is

starts_well : (actor : Option NodeId) (event : Event) → IsActor actor → IsEventOf actor event → StartsWell event
starts_well actor (Start client call) is own = subst IsActor own is
starts_well actor (Deliver packet stop) is own = tt
starts_well actor (Tick node stop) is own = tt
starts_well actor (Crash node) is own = tt
starts_well actor (NewView server stop) is own = tt
starts_well actor (Gone client) is own = tt
starts_well actor (WriteBack client fd) is own = tt

-- how far counts may go
pub record Bounds (past : Past) (items : List TraceItem) : Type 0 where
  pub steps : (after_all past items).steps < 2 ^ 64
  pub packets : (after_all past items).packets < 2 ^ 64
  pub view : (after_all past items).view < 2 ^ 64
  pub calls : (client : ClientId) → length (past.calls client) ≤ past.steps

views_grow : (past : Past) (items : List TraceItem) → past.view ≤ (after_all past items).view
unfolding after_all
views_grow past [] = omega arith
views_grow past (StepItem step ∷ items) = let more = views_grow (after_step past step) items in omega (arith, more)
views_grow past (RefusedItem line cause ∷ items) = views_grow past items
views_grow past (SettledItem line cycles how ∷ items) = views_grow past items

steps_grow : (past : Past) (items : List TraceItem) → past.steps ≤ (after_all past items).steps
unfolding after_all
steps_grow past [] = omega arith
steps_grow past (StepItem step ∷ items) = let more = steps_grow (after_step past step) items in omega (arith, more)
steps_grow past (RefusedItem line cause ∷ items) = steps_grow past items
steps_grow past (SettledItem line cycles how ∷ items) = steps_grow past items

packets_grow : (past : Past) (items : List TraceItem) → past.packets ≤ (after_all past items).packets
unfolding after_all
packets_grow past [] = omega arith
packets_grow past (StepItem step ∷ items) = let more = packets_grow (after_step past step) items in omega (arith, more)
packets_grow past (RefusedItem line cause ∷ items) = packets_grow past items
packets_grow past (SettledItem line cycles how ∷ items) = packets_grow past items

few_calls : (past : Past) (event : Event) (client : ClientId) → length (past.calls client) ≤ past.steps → length (calls_with past event client) ≤ past.steps + 1
few_calls past event client few = let one = at_most_one event in omega (arith, few, one, length-append (past.calls client) (calls_by client event))
  where
    chosen : (b : Bool) (call : Call) → length (if b then call ∷ [] else []) ≤ 1
    chosen true call = omega arith
    chosen false call = omega arith

    at_most_one : (event : Event) → length (calls_by client event) ≤ 1
    at_most_one (Start starter call) = chosen (client.0 == starter.0) call
    at_most_one (Deliver packet stop) = omega arith
    at_most_one (Tick node stop) = omega arith
    at_most_one (Crash node) = omega arith
    at_most_one (NewView server stop) = omega arith
    at_most_one (Gone client) = omega arith
    at_most_one (WriteBack writer fd) = omega arith

next_bounds : (past : Past) (step : TraceStep) (items : List TraceItem) → Bounds past (StepItem step ∷ items) → Bounds (after_step past step) items
unfolding after_all
next_bounds past step items b = record {
  steps = b.steps;
  packets = b.packets;
  view = b.view;
  calls = λ client. few_calls past step.event client (b.calls client);
}

number_wide : (past : Past) (event : Event) → past.steps + 1 < 2 ^ 64 → ((client : ClientId) → length (past.calls client) ≤ past.steps) → IsWide (number_of past event)
number_wide past (Start client call) few calls = let most = calls client in omega (arith, few, most)
number_wide past (Deliver packet stop) few calls = omega arith
number_wide past (Tick node stop) few calls = omega arith
number_wide past (Crash node) few calls = omega arith
number_wide past (NewView server stop) few calls = omega arith
number_wide past (Gone client) few calls = omega arith
number_wide past (WriteBack client fd) few calls = omega arith

-- the first line of a step begins it
goes_first : (r : Reading) (past : Past) (step : TraceStep) → IsStep past step → past.steps + 1 < 2 ^ 64 → past.view + views_by step.event < 2 ^ 64 → ((client : ClientId) → length (past.calls client) ≤ past.steps)
    → GoesBy (first_line past step) r (begun r step.node step.event)
goes_first r past step good few view calls = record {
  is = (omega (arith, few), good.actor, told_good (number_of past step.event) past.view step.event (number_wide past step.event few calls) view good.event);
  takes = record { told = step.event; is = told_event step.node (number_of past step.event) (past.view + 1) step.event good.own; next_is = refl };
}

-- lines that lead to a run's items
pub record GoesTo (r : Reading) (lines : List TraceLine) (items : List TraceItem) : Type 0 where
  pub last : Reading
  pub goes : Goes r lines last
  pub closed_is : closed last ≡ closed r ++ items

goes_on : (r next : Reading) (first lines : List TraceLine) (item : TraceItem) (items : List TraceItem) → Goes r first next → closed next ≡ closed r ++ item ∷ [] → GoesTo next lines items → GoesTo r (first ++ lines) (item ∷ items)
goes_on r next first lines item items goes is to = record {
  last = to.last;
  goes = goes_append first lines r next to.last goes to.goes;
  closed_is = to.closed_is ∙ ap (λ (l : List TraceItem). l ++ items) is ∙ append_assoc (closed r) (item ∷ []) items;
}

pub goes_items : (r : Reading) (past : Past) (items : List TraceItem) → AreItems past items → Knows r.calls past.calls → Bounds past items → GoesTo r (items_lines past items) items
unfolding AreItems after_all
goes_items r past [] good knows b = record { last = r; goes = refl; closed_is = sym (append-nil (closed r)) }
goes_items r past (StepItem step ∷ items) good knows b =
    let grown = steps_grow (after_step past step) items in
    let sent = packets_grow (after_step past step) items in
    let opened = views_grow (after_step past step) items in
    let base : Reading = record { items = closed r; step = None; calls = noted r.calls step.event } in
    let known : Knows base.calls (calls_with past step.event) = knows_noted r.calls past step.event (starts_well step.node step.event good.0.actor good.0.own) knows in
    goes_on r (in_step base step) (first_line past step ∷ more_lines past.packets step) (items_lines (after_step past step) items) (StepItem step) items
    (begun r step.node step.event, goes_first r past step good.0 (omega (arith, grown, b.steps)) (omega (arith, opened, b.view)) b.calls, goes_more base past step good.0 known (omega (arith, sent, b.packets))) refl
    (goes_items (in_step base step) (after_step past step) items good.1 known (next_bounds past step items b))
goes_items r past (RefusedItem line cause ∷ items) good knows b =
    goes_on r (passed r (RefusedItem line cause)) (Refused line cause ∷ []) (items_lines past items) (RefusedItem line cause) items
    (passed r (RefusedItem line cause), record { is = good.0; takes = refl }, refl) refl
    (goes_items (passed r (RefusedItem line cause)) past items good.1 knows (record { steps = b.steps; packets = b.packets; view = b.view; calls = b.calls }))
goes_items r past (SettledItem line cycles how ∷ items) good knows b =
    goes_on r (passed r (SettledItem line cycles how)) (Settled line cycles how ∷ []) (items_lines past items) (SettledItem line cycles how) items
    (passed r (SettledItem line cycles how), record { is = good.0; takes = refl }, refl) refl
    (goes_items (passed r (SettledItem line cycles how)) past items good.1 knows (record { steps = b.steps; packets = b.packets; view = b.view; calls = b.calls }))
