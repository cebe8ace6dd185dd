-- No line of a run has a line feed in it.
use Rattle.std.proofs.Common.{◌≡◌, ◌+◌, ◌++◌, ℕ, suc, true, List, [], ◌∷◌, All, Option, Some, None, codes, refl, ap, ◌∙◌, arith}
use Rattle.std.specs.Fmt.{decimal}
use Rattle.cal_base.specs.declared.identity.ClientId.{ClientId}
use Rattle.cal_base.specs.declared.identity.NodeId.{NodeId}
use Rattle.cal_base.specs.declared.identity.NodeId.TheVariants.{Client, Server}
use Rattle.tree_law.specs.Path.{IsName}
use Rattle.tree_law.specs.declared.call.Call.{Call}
use Rattle.tree_law.specs.declared.call.Call.TheVariants.{Create, Mkdir, Unlink, Rmdir, Rename, Open, Close, Read, Write as WriteCall, Truncate, Stat, Readdir, Fsync}
use Rattle.tree_law.specs.declared.entry.Entry.{Entry}
use Rattle.tree_law.specs.declared.entry.Entry.TheVariants.{Call as Called, Flush, Purge}
use Rattle.tree_law.specs.declared.reply.Reply.{Reply}
use Rattle.tree_law.specs.declared.reply.Reply.TheVariants.{Done, Fd, Bytes, Count, File, Dir, Names, Refused as RefusedReply}
use Rattle.token_kind.specs.declared.block.Block.{Block}
use Rattle.session.specs.declared.packet.Packet.{Packet}
use Rattle.cluster_law.specs.declared.step.Answer.{Answer}
use Rattle.cluster_law.specs.declared.step.Event.{Event}
use Rattle.cluster_law.specs.declared.step.Event.TheVariants.{Start, Deliver, Tick, Crash, NewView, Gone, WriteBack}
use Rattle.cluster_law.specs.declared.step.Halt.{Halt}
use Rattle.cluster_law.specs.declared.step.TraceStep.{TraceStep}
use Rattle.trace_text.specs.Kinds.{HasCall, HasNames, HasReply, is_plain}
use Rattle.trace_text.specs.Runs.{cause_word, end_line, run_line, settled_line, settled_word}
use Rattle.trace_text.specs.declared.runs.Cause.{Cause}
use Rattle.trace_text.specs.declared.runs.Cause.TheVariants.{NoSuch, NoPacket, Dead, Busy, Alive}
use Rattle.trace_text.specs.declared.runs.Settled.{Settled}
use Rattle.trace_text.specs.declared.runs.Settled.TheVariants.{Idle, Stuck, Spent}
use Rattle.trace_text.proofs.PlainText.{plain_both, plain_decimal, plain_four, plain_three}
use Rattle.trace_text.proofs.PlainLines.{plain_answer_line, plain_entry_line, plain_halt_line, plain_head_line, plain_packet_line, plain_step_line, plain_write_line}
use Rattle.reply_words.specs.Limits.{IsReplyOf}
use Rattle.trace_lines.specs.Lines.{line_text}
use Rattle.trace_lines.specs.declared.line.TraceLine.{TraceLine}
use Rattle.run_trace.specs.Past.{Past, after, calls_with, place_of}
use Rattle.run_trace.specs.Traces.{AreItems, IsAnswer, IsEntry, IsEvent, IsItem, IsStep}
use Rattle.run_trace.specs.declared.trace.TraceItem.{TraceItem}
use Rattle.run_trace.specs.declared.trace.TraceItem.TheVariants.{Step as StepItem, Refused as RefusedItem, Settled as SettledItem}
use Rattle.trace_reader.proofs.TraceTexts.{answer_lines, entry_is, entry_lines, first_is, halt_lines, head_lines, item_lines, items_lines, more_lines, send_lines, write_lines}

abbrev pub ArePlain : List TraceLine → Type 0
ArePlain [] = Unit {0}
ArePlain (one ∷ lines) = (is_plain (line_text one) ≡ true) × ArePlain lines

both : (lines more : List TraceLine) → ArePlain lines → ArePlain more → ArePlain (lines ++ more)
both [] more are are_too = are_too
both (one ∷ lines) more are are_too = (are.0, both lines more are.1 are_too)

writes_plain : (writes : List (ℕ × List ℕ)) → ArePlain (write_lines writes)
writes_plain [] = tt
writes_plain (write ∷ writes) = (plain_write_line write, writes_plain writes)

names_told : (call : Call) (names : List (List ℕ)) → IsReplyOf call (Names names) → All IsName names
names_told (Create path) names is = absurd is
names_told (Mkdir path) names is = absurd is
names_told (Unlink path) names is = absurd is
names_told (Rmdir path) names is = absurd is
names_told (Rename from to) names is = absurd is
names_told (Open path mode) names is = absurd is
names_told (Close fd) names is = absurd is
names_told (Read fd offset count) names is = absurd is
names_told (WriteCall fd offset bytes) names is = absurd is
names_told (Truncate fd size) names is = absurd is
names_told (Stat path) names is = absurd is
names_told (Readdir path) names is = is
names_told (Fsync fd) names is = absurd is

has_names : (call : Call) (reply : Reply) → IsReplyOf call reply → HasNames reply
has_names call (Names names) is = names_told call names is
has_names call Done is = tt
has_names call (Fd fd) is = tt
has_names call (Bytes bytes) is = tt
has_names call (Count count) is = tt
has_names call (File size) is = tt
has_names call Dir is = tt
has_names call (RefusedReply why) is = tt

has_reply : (calls : ClientId → List Call) (one : Entry) → IsEntry calls one → HasReply one
has_reply calls (Called client number call reply new) is = has_names call reply is.4
has_reply calls (Flush client ino) is = tt
has_reply calls (Purge client) is = tt

entries_plain : (calls : ClientId → List Call) (entries : List Entry) → All (IsEntry calls) entries → ArePlain (entry_lines entries)
entries_plain calls [] good = tt
entries_plain calls (one ∷ entries) good =
    (ap is_plain (entry_is one) ∙ plain_entry_line one (has_reply calls one (good 0 one (omega arith))), entries_plain calls entries (λ k d l. good (suc k) d (omega (arith, l))))

sends_plain : (number : ℕ) (packets : List Packet) → ArePlain (send_lines number packets)
sends_plain number [] = tt
sends_plain number (packet ∷ packets) = (plain_packet_line number packet, sends_plain (number + 1) packets)

answer_plain : (calls : ClientId → List Call) (actor : Option NodeId) (answer : Option Answer) → IsAnswer calls actor answer → ArePlain (answer_lines actor answer)
answer_plain calls (Some (Client client)) None good = tt
answer_plain calls (Some (Server server)) None good = tt
answer_plain calls None None good = tt
answer_plain calls (Some (Client client)) (Some answer) good = (plain_answer_line client answer.number answer.reply (has_names good.1.call answer.reply good.1.reply), tt)
answer_plain calls (Some (Server server)) (Some answer) good = tt
answer_plain calls None (Some answer) good = tt

head_plain : (head : Option Block) → ArePlain (head_lines head)
head_plain None = tt
head_plain (Some block) = (plain_head_line block, tt)

halt_plain : (actor : Option NodeId) (halt : Option Halt) → ArePlain (halt_lines actor halt)
halt_plain actor None = tt
halt_plain actor (Some halt) = (plain_halt_line actor halt, tt)

has_call : (event : Event) → IsEvent event → HasCall event
has_call (Start client call) is = is
has_call (Deliver packet stop) is = tt
has_call (Tick node stop) is = tt
has_call (Crash node) is = tt
has_call (NewView server stop) is = tt
has_call (Gone client) is = tt
has_call (WriteBack client fd) is = tt

more_plain : (past : Past) (step : TraceStep) → IsStep past step → ArePlain (more_lines past.packets step)
more_plain past step good =
    both (write_lines step.writes ++ entry_lines step.entries ++ send_lines past.packets step.sent ++ answer_lines step.node step.answer ++ head_lines step.head) (halt_lines step.node step.halt)
    (both (write_lines step.writes ++ entry_lines step.entries ++ send_lines past.packets step.sent ++ answer_lines step.node step.answer) (head_lines step.head)
    (both (write_lines step.writes ++ entry_lines step.entries ++ send_lines past.packets step.sent) (answer_lines step.node step.answer)
    (both (write_lines step.writes ++ entry_lines step.entries) (send_lines past.packets step.sent)
    (both (write_lines step.writes) (entry_lines step.entries) (writes_plain step.writes) (entries_plain (calls_with past step.event) step.entries good.entries))
    (sends_plain past.packets step.sent)) (answer_plain (calls_with past step.event) step.node step.answer good.answer)) (head_plain step.head)) (halt_plain step.node step.halt)

cause_plain : (cause : Cause) → is_plain (cause_word cause) ≡ true
cause_plain NoSuch = refl
cause_plain NoPacket = refl
cause_plain Dead = refl
cause_plain Busy = refl
cause_plain Alive = refl

how_plain : (how : Settled) → is_plain (settled_word how) ≡ true
how_plain Idle = refl
how_plain Stuck = refl
how_plain Spent = refl

settled_plain : (number cycles : ℕ) (how : Settled) → is_plain (settled_line number cycles how) ≡ true
settled_plain number cycles how =
    plain_three (codes "settled " ++ decimal number ++ codes " " ++ decimal cycles) (codes " ") (settled_word how) (plain_four (codes "settled ") (decimal number) (codes " ") (decimal cycles) refl (plain_decimal number) refl (plain_decimal cycles)) refl (how_plain how)

pub run_plain : (clients window : ℕ) → is_plain (run_line clients window) ≡ true
run_plain clients window = plain_four (codes "run clients ") (decimal clients) (codes " window ") (decimal window) refl (plain_decimal clients) refl (plain_decimal window)

pub end_plain : (steps : ℕ) → is_plain (end_line steps) ≡ true
end_plain steps = plain_both (codes "end ") (decimal steps) refl (plain_decimal steps)

item_plain : (past : Past) (item : TraceItem) → IsItem past item → ArePlain (item_lines past item)
item_plain past (StepItem step) good = (ap is_plain (first_is past step) ∙ plain_step_line (place_of past step.event) step (has_call step.event good.event), more_plain past step good)
item_plain past (RefusedItem number cause) good = (plain_four (codes "refused ") (decimal number) (codes " ") (cause_word cause) refl (plain_decimal number) refl (cause_plain cause), tt)
item_plain past (SettledItem number cycles how) good = (settled_plain number cycles how, tt)

pub items_plain : (past : Past) (items : List TraceItem) → AreItems past items → ArePlain (items_lines past items)
unfolding AreItems
items_plain past [] good = tt
items_plain past (item ∷ items) good = both (item_lines past item) (items_lines (after past item) items) (item_plain past item good.0) (items_plain (after past item) items good.1)
