-- A line is read from its text.
use Rattle.std.proofs.Common.{◌≡◌, ◌++◌, ℕ, Bool, true, false, List, [], ◌∷◌, cond, refl, ap, ◌∙◌, Ok, Option, codes, decimal, bytes_eq, append_assoc, ◌==◌, arith}
use Rattle.std.proofs.lemmas.Slice.Eq.{bytes_eq-Decides}
use Rattle.cal_base.specs.declared.identity.ClientId.{ClientId}
use Rattle.cal_base.specs.declared.identity.Ino.{Ino}
use Rattle.cal_base.specs.declared.identity.NodeId.{NodeId}
use Rattle.token_kind.specs.declared.block.Block.{Block}
use Rattle.session.specs.declared.packet.Packet.{Packet}
use Rattle.cluster_law.specs.declared.step.Halt.{Halt}
use Rattle.cluster_law.specs.declared.step.Halt.TheVariants.{Fenced, Failed, Stopped, Damaged}
use Rattle.script.specs.Spelling.{client_word, node_word, IsClient, IsWide}
use Rattle.trace_text.specs.Entries.{new_text}
use Rattle.trace_text.specs.Line.{actor_word, hex_or_dash}
use Rattle.trace_text.specs.Packets.{kind_name, body_name}
use Rattle.trace_text.specs.Runs.{cause_word, settled_word, run_line, end_line}
use Rattle.trace_text.specs.Sectors.{sector_text}
use Rattle.trace_text.specs.Serving.{class_word, reason_text}
use Rattle.trace_text.specs.declared.runs.Cause.{Cause}
use Rattle.trace_text.specs.declared.runs.Settled.{Settled}
use Rattle.line_words.specs.Outcome.{outside}
use Rattle.line_words.specs.Places.{number_of, client_of}
use Rattle.line_words.specs.Values.{node_of}
use Rattle.line_words.specs.Words.{words}
use Rattle.line_words.proofs.Joined.{is_free, are_free, and_both}
use Rattle.line_words.proofs.Reading.{chain, number_is, client_is}
use Rattle.line_words.proofs.Valued.{node_is, node_free}
use Rattle.line_words.proofs.WordsFree.{number_free, client_free}
use Rattle.trace_lines.specs.Events.{event_in}
use Rattle.trace_lines.specs.Grammar.{block_in, reason_in, sending_in, packet_in, line_in, line_of, run_in, end_in}
use Rattle.trace_lines.specs.Limits.{AreBytes, IsActor, IsHead, IsMade, IsNumber32, IsPacket, IsReason, IsRun, IsWrite}
use Rattle.trace_lines.specs.Lines.{line_text, step_event_text, IsStepEvent, IsTraceLine}
use Rattle.trace_lines.specs.Places.{number32_of, clients_of, window_of, view_of, ino_of, new_of, actor_of, class_of, cause_of, settled_of}
use Rattle.trace_lines.specs.Sectors.{bytes_of, sector_of, body_in}
use Rattle.trace_lines.specs.Words.{text_left}
use Rattle.trace_lines.specs.declared.line.StepEvent.{StepEvent}
use Rattle.trace_lines.specs.declared.line.TraceLine.{TraceLine}
use Rattle.trace_lines.specs.declared.line.TraceLine.TheVariants.{Step, Write, CallEntry, FlushEntry, PurgeEntry, Send, Answer, Head, Halt as Halts, Refused, Settled as Settles}
use Rattle.trace_lines.proofs.EventsRead.{event_is}
use Rattle.trace_lines.proofs.Filling.{bytes_is, bytes_free, sector_is, sector_free}
use Rattle.trace_lines.proofs.PlacesRead.{taking, number32_is, number32_free, clients_is, window_is, view_is, ino_is, new_is, new_free, actor_is, actor_free, class_is, class_free, cause_is, cause_free, settled_is, settled_free}
use Rattle.trace_lines.proofs.Texts.{before, front_is, one_is, all_are, text_taken}

-- steps

step_is : (index : ℕ) (actor : Option NodeId) (event : StepEvent) → IsWide index → IsActor actor → IsStepEvent event → line_in (words (line_text (Step index actor event))) ≡ Ok (Step index actor event)
step_is index actor event hi ha he =
    let by-event = words (step_event_text event) in
    let by-actor = actor_word actor ∷ by-event in
    ap (λ (text : List ℕ). line_in (words text)) (in_order (decimal index) (actor_word actor) (step_event_text event))
    ∙ ap line_in (front_is (codes "step" ∷ decimal index ∷ actor_word actor ∷ []) (step_event_text event) (and_both _ _ refl (and_both _ _ (number_free index hi) (and_both _ _ (actor_free actor ha) refl))))
    ∙ taking number_of (decimal index) by-actor index _ _ (number_is index hi)
    (taking actor_of (actor_word actor) by-event actor _ _ (actor_is actor ha)
    (chain (event_in by-event) event _ _ (event_is event he) refl))
  where
    in_order : (index actor event : List ℕ) → codes "step " ++ index ++ codes " " ++ actor ++ codes " " ++ event ≡ before (codes "step" ∷ index ∷ actor ∷ []) event
    in_order index actor event = simp append_assoc

-- writes

write_is : (write : ℕ × List ℕ) → IsWrite write → line_in (words (line_text (Write write))) ≡ Ok (Write write)
write_is write h =
    let last = sector_text write.1 in
    ap (λ (text : List ℕ). line_in (words text)) (in_order (decimal write.0) last)
    ∙ ap line_in (all_are (codes "write" ∷ decimal write.0 ∷ []) last (and_both _ _ refl (and_both _ _ (number32_free write.0 h.0) refl)) (sector_free write.1 h.1))
    ∙ taking number32_of (decimal write.0) (last ∷ []) write.0 _ _ (number32_is write.0 h.0)
    (chain (sector_of last) write.1 _ _ (sector_is write.1 h.1) refl)
  where
    in_order : (number sector : List ℕ) → codes "write " ++ number ++ codes " " ++ sector ≡ before (codes "write" ∷ number ∷ []) sector
    in_order number sector = simp append_assoc

-- entries

call_entry_is : (client : ClientId) (number : ℕ) (new : Option Ino) (reply : List ℕ) → IsClient client → IsWide number → IsMade new → line_in (words (line_text (CallEntry client number new reply))) ≡ Ok (CallEntry client number new reply)
call_entry_is client number new reply hc hn hi =
    let by-answer = words reply in
    let by-reply = codes "reply" ∷ by-answer in
    let by-ino = new_text new ∷ by-reply in
    let by-new = codes "new" ∷ by-ino in
    let by-number = decimal number ∷ by-new in
    ap (λ (text : List ℕ). line_in (words text)) (in_order (decimal client.0) (decimal number) (new_text new) reply)
    ∙ ap line_in (front_is (codes "entry" ∷ codes "call" ∷ client_word client ∷ decimal number ∷ codes "new" ∷ new_text new ∷ codes "reply" ∷ []) reply
    (and_both _ _ refl (and_both _ _ refl (and_both _ _ (client_free client hc) (and_both _ _ (number_free number hn) (and_both _ _ refl (and_both _ _ (new_free new hi) refl)))))))
    ∙ taking client_of (client_word client) by-number client _ _ (client_is client hc)
    (taking number_of (decimal number) by-new number _ _ (number_is number hn)
    (taking new_of (new_text new) by-reply new _ _ (new_is new hi)
    (chain (text_left by-answer) reply _ _ (text_taken reply) refl)))
  where
    in_order : (client number new reply : List ℕ) → (codes "entry call c" ++ client ++ codes " " ++ number ++ codes " new " ++ new) ++ codes " reply " ++ reply ≡ before (codes "entry" ∷ codes "call" ∷ (99 ∷ client) ∷ number ∷ codes "new" ∷ new ∷ codes "reply" ∷ []) reply
    in_order client number new reply = simp append_assoc

flush_entry_is : (client : ClientId) (ino : Ino) → IsClient client → IsNumber32 ino.0 → line_in (words (line_text (FlushEntry client ino))) ≡ Ok (FlushEntry client ino)
flush_entry_is client ino hc hi =
    ap (λ (text : List ℕ). line_in (words text)) (in_order (decimal client.0) (decimal ino.0))
    ∙ ap line_in (all_are (codes "entry" ∷ codes "flush" ∷ client_word client ∷ []) (decimal ino.0) (and_both _ _ refl (and_both _ _ refl (and_both _ _ (client_free client hc) refl))) (number32_free ino.0 hi))
    ∙ taking client_of (client_word client) (decimal ino.0 ∷ []) client _ _ (client_is client hc)
    (chain (ino_of (decimal ino.0)) ino _ _ (ino_is ino hi) refl)
  where
    in_order : (client ino : List ℕ) → codes "entry flush c" ++ client ++ codes " " ++ ino ≡ before (codes "entry" ∷ codes "flush" ∷ (99 ∷ client) ∷ []) ino
    in_order client ino = simp append_assoc

purge_entry_is : (client : ClientId) → IsClient client → line_in (words (line_text (PurgeEntry client))) ≡ Ok (PurgeEntry client)
purge_entry_is client hc =
    ap line_in (all_are (codes "entry" ∷ codes "purge" ∷ []) (client_word client) refl (client_free client hc))
    ∙ chain (client_of (client_word client)) client _ _ (client_is client hc) refl

-- packets

same_name : (name : List ℕ) → bytes_eq name name ≡ true
same_name name = (bytes_eq-Decides name name).1 refl

body_is : (body : List ℕ) → AreBytes body → body_in (body_name body ∷ hex_or_dash body ∷ []) ≡ Ok body
body_is body h =
    chain (bytes_of (hex_or_dash body)) body _ _ (bytes_is body h)
    (ap (λ (b : Bool). cond b (Ok body) outside) (same_name (body_name body)))

either : (b : Bool) (one other : List ℕ) → is_free one ≡ true → is_free other ≡ true → is_free (cond b one other) ≡ true
either true one other h k = h
either false one other h k = k

kind_free : (kind : ℕ) → is_free (kind_name kind) ≡ true
kind_free kind =
    either (kind == 1) _ _ refl (either (kind == 2) _ _ refl (either (kind == 3) _ _ refl (either (kind == 4) _ _ refl
    (either (kind == 5) _ _ refl (either (kind == 6) _ _ refl (either (kind == 7) _ _ refl (either (kind == 8) _ _ refl
    (either (kind == 9) _ _ refl (either (kind == 10) _ _ refl (either (kind == 11) _ _ refl (either (kind == 12) _ _ refl
    (either (kind == 13) _ _ refl refl))))))))))))

name_free : (body : List ℕ) → is_free (body_name body) ≡ true
name_free [] = refl
name_free (kind ∷ fields) = kind_free kind

abbrev counts_words : Packet → List (List ℕ)
counts_words packet = decimal packet.view.0 ∷ decimal packet.seq ∷ decimal packet.ack ∷ body_name packet.body ∷ hex_or_dash packet.body ∷ []

sending_is : (packet : Packet) → IsPacket packet → sending_in (counts_words packet) ≡ Ok (record { view = packet.view; seq = packet.seq; ack = packet.ack; body = packet.body })
sending_is packet is =
    let by-name = body_name packet.body ∷ hex_or_dash packet.body ∷ [] in
    let by-ack = decimal packet.ack ∷ by-name in
    let by-seq = decimal packet.seq ∷ by-ack in
    taking view_of (decimal packet.view.0) by-seq packet.view _ _ (view_is packet.view is.view)
    (taking number_of (decimal packet.seq) by-ack packet.seq _ _ (number_is packet.seq is.seq)
    (taking number_of (decimal packet.ack) by-name packet.ack _ _ (number_is packet.ack is.ack)
    (chain (body_in by-name) packet.body _ _ (body_is packet.body is.bytes) refl)))

packet_is : (packet : Packet) → IsPacket packet → packet_in (node_word packet.from ∷ node_word packet.to ∷ counts_words packet) ≡ Ok packet
packet_is packet is =
    let by-counts = counts_words packet in
    let by-to = node_word packet.to ∷ by-counts in
    taking node_of (node_word packet.from) by-to packet.from _ _ (node_is packet.from is.from)
    (taking node_of (node_word packet.to) by-counts packet.to _ _ (node_is packet.to is.to)
    (chain (sending_in by-counts) (record { view = packet.view; seq = packet.seq; ack = packet.ack; body = packet.body }) _ _ (sending_is packet is) refl))

counts_free : (packet : Packet) → IsPacket packet → are_free (decimal packet.view.0 ∷ decimal packet.seq ∷ decimal packet.ack ∷ body_name packet.body ∷ []) ≡ true
counts_free packet is = and_both _ _ (number_free packet.view.0 is.view) (and_both _ _ (number_free packet.seq is.seq) (and_both _ _ (number_free packet.ack is.ack) (and_both _ _ (name_free packet.body) refl)))

send_is : (number : ℕ) (packet : Packet) → IsWide number → IsPacket packet → line_in (words (line_text (Send number packet))) ≡ Ok (Send number packet)
send_is number packet hn is =
    let from = node_word packet.from in
    let to = node_word packet.to in
    let counts = counts_words packet in
    let front = codes "send" ∷ decimal number ∷ from ∷ to ∷ decimal packet.view.0 ∷ decimal packet.seq ∷ decimal packet.ack ∷ body_name packet.body ∷ [] in
    ap (λ (text : List ℕ). line_in (words text)) (in_order (codes "send ") (codes " ") (decimal number) from to (decimal packet.view.0) (decimal packet.seq) (decimal packet.ack) (body_name packet.body) (hex_or_dash packet.body))
    ∙ ap line_in (all_are front (hex_or_dash packet.body) (and_both _ _ refl (and_both _ _ (number_free number hn) (and_both _ _ (node_free packet.from is.from) (and_both _ _ (node_free packet.to is.to) (counts_free packet is))))) (bytes_free packet.body is.bytes))
    ∙ taking number_of (decimal number) (from ∷ to ∷ counts) number _ _ (number_is number hn)
    (chain (packet_in (from ∷ to ∷ counts)) packet _ _ (packet_is packet is) refl)
  where
    in_order : (send s number from to view seq ack name body : List ℕ) → (send ++ number ++ s ++ from ++ s ++ to) ++ (s ++ view ++ s ++ seq ++ s ++ ack) ++ (s ++ name ++ s ++ body)
        ≡ send ++ (number ++ (s ++ (from ++ (s ++ (to ++ (s ++ (view ++ (s ++ (seq ++ (s ++ (ack ++ (s ++ (name ++ (s ++ body))))))))))))))
    in_order send s number from to view seq ack name body = simp append_assoc

-- answers

answer_is : (client : ClientId) (number : ℕ) (reply : List ℕ) → IsClient client → IsWide number → line_in (words (line_text (Answer client number reply))) ≡ Ok (Answer client number reply)
answer_is client number reply hc hn =
    let by-reply = words reply in
    let by-number = decimal number ∷ by-reply in
    ap (λ (text : List ℕ). line_in (words text)) (in_order (decimal client.0) (decimal number) reply)
    ∙ ap line_in (front_is (codes "ans" ∷ client_word client ∷ decimal number ∷ []) reply (and_both _ _ refl (and_both _ _ (client_free client hc) (and_both _ _ (number_free number hn) refl))))
    ∙ taking client_of (client_word client) by-number client _ _ (client_is client hc)
    (taking number_of (decimal number) by-reply number _ _ (number_is number hn)
    (chain (text_left by-reply) reply _ _ (text_taken reply) refl))
  where
    in_order : (client number reply : List ℕ) → codes "ans c" ++ client ++ codes " " ++ number ++ codes " " ++ reply ≡ before (codes "ans" ∷ (99 ∷ client) ∷ number ∷ []) reply
    in_order client number reply = simp append_assoc

-- heads

block_is : (block : Block) → IsHead block → block_in (client_word block.client ∷ decimal block.number ∷ codes "blocked" ∷ client_word block.holder ∷ decimal block.ino.0 ∷ class_word block.class ∷ []) ≡ Ok block
block_is block h =
    let by-class = class_word block.class ∷ [] in
    let by-ino = decimal block.ino.0 ∷ by-class in
    let by-holder = client_word block.holder ∷ by-ino in
    let by-blocked = codes "blocked" ∷ by-holder in
    let by-number = decimal block.number ∷ by-blocked in
    taking client_of (client_word block.client) by-number block.client _ _ (client_is block.client h.0)
    (taking number_of (decimal block.number) by-blocked block.number _ _ (number_is block.number h.1)
    (taking client_of (client_word block.holder) by-ino block.holder _ _ (client_is block.holder h.2)
    (taking ino_of (decimal block.ino.0) by-class block.ino _ _ (ino_is block.ino h.3)
    (chain (class_of (class_word block.class)) block.class _ _ (class_is block.class) refl))))

head_is : (block : Block) → IsHead block → line_in (words (line_text (Head block))) ≡ Ok (Head block)
head_is block h =
    let client = client_word block.client in
    let holder = client_word block.holder in
    let number = decimal block.number in
    let ino = decimal block.ino.0 in
    let last = class_word block.class in
    ap (λ (text : List ℕ). line_in (words text)) (in_order (codes "head c") (codes " ") (codes " blocked c") (decimal block.client.0) number (decimal block.holder.0) ino last)
    ∙ ap line_in (all_are (codes "head" ∷ client ∷ number ∷ codes "blocked" ∷ holder ∷ ino ∷ []) last
    (and_both _ _ refl (and_both _ _ (client_free block.client h.0) (and_both _ _ (number_free block.number h.1) (and_both _ _ refl (and_both _ _ (client_free block.holder h.2) (and_both _ _ (number32_free block.ino.0 h.3) refl)))))) (class_free block.class))
    ∙ chain (block_in (client ∷ number ∷ codes "blocked" ∷ holder ∷ ino ∷ last ∷ [])) block _ _ (block_is block h) refl
  where
    in_order : (head s blocked client number holder ino last : List ℕ) → (head ++ client ++ s ++ number) ++ (blocked ++ holder ++ s ++ ino ++ s ++ last) ≡ head ++ (client ++ (s ++ (number ++ (blocked ++ (holder ++ (s ++ (ino ++ (s ++ last))))))))
    in_order head s blocked client number holder ino last = simp append_assoc

-- halts

reason_is : (halt : Halt) → IsReason halt → reason_in (words (reason_text halt)) ≡ Ok halt
reason_is (Fenced mine current) h =
    ap (λ (text : List ℕ). reason_in (words text)) (in_order (decimal mine.0) (decimal current.0))
    ∙ ap reason_in (all_are (codes "fenced" ∷ decimal mine.0 ∷ []) (decimal current.0) (and_both _ _ refl (and_both _ _ (number_free mine.0 h.0) refl)) (number_free current.0 h.1))
    ∙ taking view_of (decimal mine.0) (decimal current.0 ∷ []) mine _ _ (view_is mine h.0)
    (chain (view_of (decimal current.0)) current _ _ (view_is current h.1) refl)
  where
    in_order : (mine current : List ℕ) → codes "fenced " ++ mine ++ codes " " ++ current ≡ before (codes "fenced" ∷ mine ∷ []) current
    in_order mine current = simp append_assoc
reason_is (Failed faults) h =
    ap reason_in (all_are (codes "failed" ∷ []) (decimal faults) refl (number_free faults h))
    ∙ chain (number_of (decimal faults)) faults _ _ (number_is faults h) refl
reason_is Stopped h = ap reason_in (one_is (codes "stopped") refl)
reason_is (Damaged sector) h =
    ap reason_in (all_are (codes "damaged" ∷ []) (decimal sector) refl (number32_free sector h))
    ∙ chain (number32_of (decimal sector)) sector _ _ (number32_is sector h) refl

halt_is : (actor : Option NodeId) (halt : Halt) → IsActor actor → IsReason halt → line_in (words (line_text (Halts actor halt))) ≡ Ok (Halts actor halt)
halt_is actor halt ha hr =
    let by-reason = words (reason_text halt) in
    ap (λ (text : List ℕ). line_in (words text)) (in_order (actor_word actor) (reason_text halt))
    ∙ ap line_in (front_is (codes "halt" ∷ actor_word actor ∷ []) (reason_text halt) (and_both _ _ refl (and_both _ _ (actor_free actor ha) refl)))
    ∙ taking actor_of (actor_word actor) by-reason actor _ _ (actor_is actor ha)
    (chain (reason_in by-reason) halt _ _ (reason_is halt hr) refl)
  where
    in_order : (actor reason : List ℕ) → codes "halt " ++ actor ++ codes " " ++ reason ≡ before (codes "halt" ∷ actor ∷ []) reason
    in_order actor reason = simp append_assoc

-- lines between steps

refused_is : (line : ℕ) (cause : Cause) → IsNumber32 line → line_in (words (line_text (Refused line cause))) ≡ Ok (Refused line cause)
refused_is line cause hl =
    let last = cause_word cause in
    ap (λ (text : List ℕ). line_in (words text)) (in_order (decimal line) last)
    ∙ ap line_in (all_are (codes "refused" ∷ decimal line ∷ []) last (and_both _ _ refl (and_both _ _ (number32_free line hl) refl)) (cause_free cause))
    ∙ taking number32_of (decimal line) (last ∷ []) line _ _ (number32_is line hl)
    (chain (cause_of last) cause _ _ (cause_is cause) refl)
  where
    in_order : (line cause : List ℕ) → codes "refused " ++ line ++ codes " " ++ cause ≡ before (codes "refused" ∷ line ∷ []) cause
    in_order line cause = simp append_assoc

settles_is : (line cycles : ℕ) (how : Settled) → IsNumber32 line → IsWide cycles → line_in (words (line_text (Settles line cycles how))) ≡ Ok (Settles line cycles how)
settles_is line cycles how hl hc =
    let last = settled_word how in
    let by-cycles = decimal cycles ∷ last ∷ [] in
    ap (λ (text : List ℕ). line_in (words text)) (in_order (decimal line) (decimal cycles) last)
    ∙ ap line_in (all_are (codes "settled" ∷ decimal line ∷ decimal cycles ∷ []) last (and_both _ _ refl (and_both _ _ (number32_free line hl) (and_both _ _ (number_free cycles hc) refl))) (settled_free how))
    ∙ taking number32_of (decimal line) by-cycles line _ _ (number32_is line hl)
    (taking number_of (decimal cycles) (last ∷ []) cycles _ _ (number_is cycles hc)
    (chain (settled_of last) how _ _ (settled_is how) refl))
  where
    in_order : (line cycles how : List ℕ) → codes "settled " ++ line ++ codes " " ++ cycles ++ codes " " ++ how ≡ before (codes "settled" ∷ line ∷ cycles ∷ []) how
    in_order line cycles how = simp append_assoc

in_words : (line : TraceLine) → IsTraceLine line → line_in (words (line_text line)) ≡ Ok line
in_words (Step index actor event) h = step_is index actor event h.0 h.1 h.2
in_words (Write write) h = write_is write h
in_words (CallEntry client number new reply) h = call_entry_is client number new reply h.0 h.1 h.2
in_words (FlushEntry client ino) h = flush_entry_is client ino h.0 h.1
in_words (PurgeEntry client) h = purge_entry_is client h
in_words (Send number packet) h = send_is number packet h.0 h.1
in_words (Answer client number reply) h = answer_is client number reply h.0 h.1
in_words (Head block) h = head_is block h
in_words (Halts actor halt) h = halt_is actor halt h.0 h.1
in_words (Refused line cause) h = refused_is line cause h
in_words (Settles line cycles how) h = settles_is line cycles how h.0 h.1

-- what a line tells is read from it
pub line_is : (line : TraceLine) → IsTraceLine line → line_of (line_text line) ≡ Ok line
unfolding line_of
line_is line h = in_words line h

-- the first line and the last

pub run_is : (run : ℕ × ℕ) → IsRun run → run_in (words (run_line run.0 run.1)) ≡ Ok run
run_is run h =
    let last = decimal run.1 in
    ap (λ (text : List ℕ). run_in (words text)) (in_order (decimal run.0) last)
    ∙ ap run_in (all_are (codes "run" ∷ codes "clients" ∷ decimal run.0 ∷ codes "window" ∷ []) last (and_both _ _ refl (and_both _ _ refl (and_both _ _ (number_free run.0 (omega (arith, h.1))) (and_both _ _ refl refl)))) (number_free run.1 (omega (arith, h.3))))
    ∙ taking clients_of (decimal run.0) (codes "window" ∷ last ∷ []) run.0 _ _ (clients_is run.0 h.0 h.1)
    (chain (window_of last) run.1 _ _ (window_is run.1 h.2 h.3) refl)
  where
    in_order : (clients window : List ℕ) → codes "run clients " ++ clients ++ codes " window " ++ window ≡ before (codes "run" ∷ codes "clients" ∷ clients ∷ codes "window" ∷ []) window
    in_order clients window = simp append_assoc

pub end_is : (steps : ℕ) → IsWide steps → end_in (words (end_line steps)) ≡ Ok steps
end_is steps h = ap end_in (all_are (codes "end" ∷ []) (decimal steps) refl (number_free steps h)) ∙ number_is steps h
