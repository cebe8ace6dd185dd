-- The lines of a run's items, and their text.
use Rattle.std.proofs.Common.{◌≡◌, ◌+◌, ◌++◌, ℕ, List, [], ◌∷◌, Option, Some, None, codes, refl, sym, ap, ◌∙◌, append_assoc, append-nil}
use Rattle.std.specs.Fmt.{decimal}
use Rattle.cal_base.specs.declared.identity.NodeId.{NodeId}
use Rattle.cal_base.specs.declared.identity.NodeId.TheVariants.{Client, Server}
use Rattle.tree_law.specs.declared.entry.Entry.{Entry}
use Rattle.tree_law.specs.declared.entry.Entry.TheVariants.{Call as Called, Flush, Purge}
use Rattle.token_kind.specs.declared.block.Block.{Block}
use Rattle.session.specs.declared.packet.Packet.{Packet}
use Rattle.reply_text.specs.Text.{reply_text}
use Rattle.cluster_law.specs.declared.step.Answer.{Answer}
use Rattle.cluster_law.specs.declared.step.Event.{Event}
use Rattle.cluster_law.specs.declared.step.Event.TheVariants.{Start, Deliver, Tick, Crash, NewView, Gone, WriteBack}
use Rattle.cluster_law.specs.declared.step.Halt.{Halt}
use Rattle.cluster_law.specs.declared.step.TraceStep.{TraceStep}
use Rattle.trace_text.specs.Entries.{answer_text, entries_text, entry_line}
use Rattle.trace_text.specs.Events.{event_text}
use Rattle.trace_text.specs.Line.{actor_word, line}
use Rattle.trace_text.specs.Packets.{packets_text}
use Rattle.trace_text.specs.Sectors.{writes_text}
use Rattle.trace_text.specs.Serving.{halt_text, head_text}
use Rattle.trace_text.specs.Steps.{deeds_text, step_line, step_text, words_text}
use Rattle.trace_lines.specs.Lines.{line_text, step_event_text}
use Rattle.trace_lines.specs.declared.line.StepEvent.{StepEvent}
use Rattle.trace_lines.specs.declared.line.StepEvent.TheVariants.{Start as Starts, Deliver as Delivers, Tick as Ticks, Crash as Crashes, NewView as Opens, Gone as Declares, WriteBack as WritesBack}
use Rattle.trace_lines.specs.declared.line.TraceLine.{TraceLine}
use Rattle.trace_lines.specs.declared.line.TraceLine.TheVariants.{Step, Write, CallEntry, FlushEntry, PurgeEntry, Send, Answer as Answers, Head, Halt as Halts, Refused, Settled}
use Rattle.run_trace.specs.Past.{Past, after, number_of, place_of}
use Rattle.run_trace.specs.Texts.{item_text, items_text}
use Rattle.run_trace.specs.declared.trace.TraceItem.{TraceItem}
use Rattle.run_trace.specs.declared.trace.TraceItem.TheVariants.{Step as StepItem, Refused as RefusedItem, Settled as SettledItem}

-- an event as a step's line tells it, of this number and view
abbrev pub told_as : ℕ → ℕ → Event → StepEvent
told_as number view (Start client call) = Starts number call
told_as number view (Deliver packet stop) = Delivers packet stop
told_as number view (Tick node stop) = Ticks stop
told_as number view (Crash node) = Crashes
told_as number view (NewView server stop) = Opens (record { 0 = view }) stop
told_as number view (Gone client) = Declares client
told_as number view (WriteBack client fd) = WritesBack fd

abbrev pub first_line : Past → TraceStep → TraceLine
first_line past step = Step past.steps step.node (told_as (number_of past step.event) (past.view + 1) step.event)

abbrev pub write_lines : List (ℕ × List ℕ) → List TraceLine
write_lines [] = []
write_lines (write ∷ writes) = Write write ∷ write_lines writes

abbrev pub entry_as : Entry → TraceLine
entry_as (Called client number call reply new) = CallEntry client number new (reply_text reply)
entry_as (Flush client ino) = FlushEntry client ino
entry_as (Purge client) = PurgeEntry client

abbrev pub entry_lines : List Entry → List TraceLine
entry_lines [] = []
entry_lines (one ∷ entries) = entry_as one ∷ entry_lines entries

abbrev pub send_lines : ℕ → List Packet → List TraceLine
send_lines number [] = []
send_lines number (packet ∷ packets) = Send number packet ∷ send_lines (number + 1) packets

abbrev pub answer_lines : Option NodeId → Option Answer → List TraceLine
answer_lines actor None = []
answer_lines (Some (Client client)) (Some answer) = Answers client answer.number (reply_text answer.reply) ∷ []
answer_lines (Some (Server server)) (Some answer) = []
answer_lines None (Some answer) = []

abbrev pub head_lines : Option Block → List TraceLine
head_lines None = []
head_lines (Some block) = Head block ∷ []

abbrev pub halt_lines : Option NodeId → Option Halt → List TraceLine
halt_lines actor None = []
halt_lines actor (Some halt) = Halts actor halt ∷ []

-- the lines of a step behind its first
abbrev pub more_lines : ℕ → TraceStep → List TraceLine
more_lines number step = write_lines step.writes ++ entry_lines step.entries ++ send_lines number step.sent ++ answer_lines step.node step.answer ++ head_lines step.head ++ halt_lines step.node step.halt

abbrev pub item_lines : Past → TraceItem → List TraceLine
item_lines past (StepItem step) = first_line past step ∷ more_lines past.packets step
item_lines past (RefusedItem number cause) = Refused number cause ∷ []
item_lines past (SettledItem number cycles how) = Settled number cycles how ∷ []

abbrev pub items_lines : Past → List TraceItem → List TraceLine
items_lines past [] = []
items_lines past (item ∷ items) = item_lines past item ++ items_lines (after past item) items

-- their text
abbrev pub texts : List TraceLine → List ℕ
texts [] = []
texts (one ∷ lines) = line (line_text one) ++ texts lines

pub texts-append : (lines more : List TraceLine) → texts (lines ++ more) ≡ texts lines ++ texts more
texts-append [] more = refl
texts-append (one ∷ lines) more = ap (λ (t : List ℕ). line (line_text one) ++ t) (texts-append lines more) ∙ sym (append_assoc (line (line_text one)) (texts lines) (texts more))

first_text : (number view : ℕ) (event : Event) → step_event_text (told_as number view event) ≡ event_text number view event
first_text number view (Start client call) = refl
first_text number view (Deliver packet stop) = refl
first_text number view (Tick node stop) = refl
first_text number view (Crash node) = refl
first_text number view (NewView server stop) = refl
first_text number view (Gone client) = refl
first_text number view (WriteBack client fd) = refl

pub first_is : (past : Past) (step : TraceStep) → line_text (first_line past step) ≡ step_line (place_of past step.event) step
first_is past step = ap (λ (t : List ℕ). codes "step " ++ decimal past.steps ++ codes " " ++ actor_word step.node ++ codes " " ++ t) (first_text (number_of past step.event) (past.view + 1) step.event)

writes_are : (writes : List (ℕ × List ℕ)) → texts (write_lines writes) ≡ writes_text writes
writes_are [] = refl
writes_are (write ∷ writes) = ap (λ (t : List ℕ). line (line_text (Write write)) ++ t) (writes_are writes)

pub entry_is : (one : Entry) → line_text (entry_as one) ≡ entry_line one
entry_is (Called client number call reply new) = refl
entry_is (Flush client ino) = refl
entry_is (Purge client) = refl

entries_are : (entries : List Entry) → texts (entry_lines entries) ≡ entries_text entries
entries_are [] = refl
entries_are (one ∷ entries) = ap (λ (t : List ℕ). line t ++ texts (entry_lines entries)) (entry_is one) ∙ ap (λ (t : List ℕ). line (entry_line one) ++ t) (entries_are entries)

sends_are : (number : ℕ) (packets : List Packet) → texts (send_lines number packets) ≡ packets_text number packets
sends_are number [] = refl
sends_are number (packet ∷ packets) = ap (λ (t : List ℕ). line (line_text (Send number packet)) ++ t) (sends_are (number + 1) packets)

answer_is : (actor : Option NodeId) (answer : Option Answer) → texts (answer_lines actor answer) ≡ answer_text actor answer
answer_is (Some (Client client)) None = refl
answer_is (Some (Server server)) None = refl
answer_is None None = refl
answer_is (Some (Client client)) (Some answer) = append-nil _
answer_is (Some (Server server)) (Some answer) = refl
answer_is None (Some answer) = refl

head_is : (head : Option Block) → texts (head_lines head) ≡ head_text head
head_is None = refl
head_is (Some block) = append-nil _

halt_is : (actor : Option NodeId) (halt : Option Halt) → texts (halt_lines actor halt) ≡ halt_text actor halt
halt_is actor None = refl
halt_is actor (Some halt) = append-nil _

six : (a b d e f g : List TraceLine) → texts (a ++ b ++ d ++ e ++ f ++ g) ≡ texts a ++ texts b ++ texts d ++ texts e ++ texts f ++ texts g
six a b d e f g = texts-append (a ++ b ++ d ++ e ++ f) g ∙ ap (λ (t : List ℕ). t ++ texts g) (
    texts-append (a ++ b ++ d ++ e) f ∙ ap (λ (t : List ℕ). t ++ texts f) (
    texts-append (a ++ b ++ d) e ∙ ap (λ (t : List ℕ). t ++ texts e) (
    texts-append (a ++ b) d ∙ ap (λ (t : List ℕ). t ++ texts d) (texts-append a b))))

in_order : (first a b d e f g ta tb td te tf tg : List ℕ) → ta ≡ a → tb ≡ b → td ≡ d → te ≡ e → tf ≡ f → tg ≡ g → first ++ (ta ++ tb ++ td ++ te ++ tf ++ tg) ≡ first ++ (a ++ b) ++ d ++ (e ++ f ++ g)
in_order first a b d e f g ta tb td te tf tg ia ib id ie if_ ig = rw (ia, ib, id, ie, if_, ig) (simp append_assoc)

step_is : (past : Past) (step : TraceStep) → texts (first_line past step ∷ more_lines past.packets step) ≡ step_text (place_of past step.event) step
step_is past step =
    ap (λ (t : List ℕ). line (line_text (first_line past step)) ++ t) (six (write_lines step.writes) (entry_lines step.entries) (send_lines past.packets step.sent) (answer_lines step.node step.answer) (head_lines step.head) (halt_lines step.node step.halt))
    ∙ in_order (line (line_text (first_line past step))) _ _ _ _ _ _ _ _ _ _ _ _ (writes_are step.writes) (entries_are step.entries) (sends_are past.packets step.sent) (answer_is step.node step.answer) (head_is step.head) (halt_is step.node step.halt)
    ∙ ap (λ (t : List ℕ). line t ++ deeds_text step ++ packets_text past.packets step.sent ++ words_text step) (first_is past step)

item_is : (past : Past) (item : TraceItem) → texts (item_lines past item) ≡ item_text past item
item_is past (StepItem step) = step_is past step
item_is past (RefusedItem number cause) = append-nil _
item_is past (SettledItem number cycles how) = append-nil _

pub items_are : (past : Past) (items : List TraceItem) → texts (items_lines past items) ≡ items_text past items
unfolding items_text
items_are past [] = refl
items_are past (item ∷ items) =
    texts-append (item_lines past item) (items_lines (after past item) items) ∙ ap (λ (t : List ℕ). t ++ texts (items_lines (after past item) items)) (item_is past item) ∙ ap (λ (t : List ℕ). item_text past item ++ t) (items_are (after past item) items)
