-- What a line tells is within the limits of its places.
use Rattle.std.proofs.Common.{◌≡◌, ◌≤◌, ℕ, List, [], ◌∷◌, refl, Ok, codes, bytes_eq}
use Rattle.cal_base.specs.declared.identity.Ino.{Ino}
use Rattle.cal_base.specs.declared.identity.View.{View}
use Rattle.script.specs.Spelling.{IsClient, IsNode, IsWide}
use Rattle.cluster_law.specs.declared.step.Halt.TheVariants.{Fenced, Failed, Stopped, Damaged}
use Rattle.line_words.specs.Places.{number_of, client_of}
use Rattle.line_words.specs.Values.{node_of}
use Rattle.line_words.specs.Words.{words, first_as, behind_word, last_as}
use Rattle.line_words.proofs.Ranges.{is_value, first_read, choice, first_within, last_within, number_within, client_within, node_within}
use Rattle.trace_lines.specs.Events.{event_in}
use Rattle.trace_lines.specs.Grammar.{step_in, write_in, call_entry_in, flush_entry_in, purge_entry_in, entry_in, sending_in, packet_in, send_in, answer_in, block_in, head_in, fenced_in, failed_in, damaged_in, reason_in, halt_in, refused_in, settled_in, short_line, line_in, line_of, run_in, end_in}
use Rattle.trace_lines.specs.Limits.{AreBytes, IsActor, IsHead, IsMade, IsNumber32, IsPacket, IsReason, IsRun}
use Rattle.trace_lines.specs.Lines.{IsTraceLine}
use Rattle.trace_lines.specs.Places.{number32_of, clients_of, window_of, view_of, ino_of, new_of, actor_of, class_of, cause_of, settled_of}
use Rattle.trace_lines.specs.Sectors.{sector_of, body_in}
use Rattle.trace_lines.specs.Words.{one_word, text_left}
use Rattle.trace_lines.specs.declared.lines.Sending.{Sending}
use Rattle.trace_lines.specs.declared.line.TraceLine.{TraceLine}
use Rattle.trace_lines.specs.declared.line.TraceLine.TheVariants.{Step, Write, CallEntry, FlushEntry, PurgeEntry, Send, Answer, Head, Halt as Halts, Refused, Settled as Settles}
use Rattle.trace_lines.proofs.Within.{Good, none_good, alone_good, number32_within, clients_within, window_within, view_within, ino_within, new_within, actor_within, sector_within, body_within, event_within}

step_within : (words : List (List ℕ)) → Good IsTraceLine (step_in words)
step_within words line e =
    let index = first_read (first_as number_of words) _ line e in
    let actor = first_read (first_as actor_of index.first.1) _ line index.rest in
    let event = first_read (event_in actor.first.1) _ line actor.rest in
    is_value IsTraceLine (Step index.first.0 actor.first.0 event.first) line _ refl
    (first_within IsWide number_of number_within words index.first index.is, first_within IsActor actor_of actor_within index.first.1 actor.first actor.is, event_within actor.first.1 event.first event.is)
    event.rest

write_within : (words : List (List ℕ)) → Good IsTraceLine (write_in words)
write_within words line e =
    let number = first_read (first_as number32_of words) _ line e in
    let word = first_read (one_word number.first.1) _ line number.rest in
    let sector = first_read (sector_of word.first) _ line word.rest in
    is_value IsTraceLine (Write (number.first.0, sector.first)) line _ refl
    (first_within IsNumber32 number32_of number32_within words number.first number.is, sector_within word.first sector.first sector.is)
    sector.rest

-- entries

call_entry_within : (words : List (List ℕ)) → Good IsTraceLine (call_entry_in words)
call_entry_within words line e =
    let client = first_read (first_as client_of words) _ line e in
    let number = first_read (first_as number_of client.first.1) _ line client.rest in
    let behind = first_read (behind_word (codes "new") number.first.1) _ line number.rest in
    let new = first_read (first_as new_of behind.first) _ line behind.rest in
    let answer = first_read (behind_word (codes "reply") new.first.1) _ line new.rest in
    let reply = first_read (text_left answer.first) _ line answer.rest in
    is_value IsTraceLine (CallEntry client.first.0 number.first.0 new.first.0 reply.first) line _ refl
    (first_within IsClient client_of client_within words client.first client.is, first_within IsWide number_of number_within client.first.1 number.first number.is, first_within IsMade new_of new_within behind.first new.first new.is)
    reply.rest

flush_entry_within : (words : List (List ℕ)) → Good IsTraceLine (flush_entry_in words)
flush_entry_within words line e =
    let client = first_read (first_as client_of words) _ line e in
    let word = first_read (one_word client.first.1) _ line client.rest in
    let ino = first_read (ino_of word.first) _ line word.rest in
    is_value IsTraceLine (FlushEntry client.first.0 ino.first) line _ refl
    (first_within IsClient client_of client_within words client.first client.is, ino_within word.first ino.first ino.is)
    ino.rest

purge_entry_within : (words : List (List ℕ)) → Good IsTraceLine (purge_entry_in words)
purge_entry_within words line e =
    let client = first_read (last_as client_of words) _ line e in
    is_value IsTraceLine (PurgeEntry client.first) line _ refl (last_within IsClient client_of client_within words client.first client.is) client.rest

entry_within : (words : List (List ℕ)) → Good IsTraceLine (entry_in words)
entry_within [] = none_good IsTraceLine
entry_within (kind ∷ behind) =
    choice (Good IsTraceLine) (bytes_eq kind (codes "call")) _ _ (call_entry_within behind)
    (choice (Good IsTraceLine) (bytes_eq kind (codes "flush")) _ _ (flush_entry_within behind)
    (choice (Good IsTraceLine) (bytes_eq kind (codes "purge")) _ _ (purge_entry_within behind) (none_good IsTraceLine)))

-- packets

record IsSending (sending : Sending) : Type 0 where
  pub view : IsWide sending.view.0
  pub seq : IsWide sending.seq
  pub ack : IsWide sending.ack
  pub bytes : AreBytes sending.body

sending_within : (words : List (List ℕ)) → Good IsSending (sending_in words)
sending_within words sending e =
    let view = first_read (first_as view_of words) _ sending e in
    let seq = first_read (first_as number_of view.first.1) _ sending view.rest in
    let ack = first_read (first_as number_of seq.first.1) _ sending seq.rest in
    let body = first_read (body_in ack.first.1) _ sending ack.rest in
    is_value IsSending (record { view = view.first.0; seq = seq.first.0; ack = ack.first.0; body = body.first }) sending _ refl
    (record {
      view = first_within (λ (v : View). IsWide v.0) view_of view_within words view.first view.is;
      seq = first_within IsWide number_of number_within view.first.1 seq.first seq.is;
      ack = first_within IsWide number_of number_within seq.first.1 ack.first ack.is;
      bytes = body_within ack.first.1 body.first body.is;
    })
    body.rest

packet_within : (words : List (List ℕ)) → Good IsPacket (packet_in words)
packet_within words packet e =
    let from = first_read (first_as node_of words) _ packet e in
    let to = first_read (first_as node_of from.first.1) _ packet from.rest in
    let sending = first_read (sending_in to.first.1) _ packet to.rest in
    let is = sending_within to.first.1 sending.first sending.is in
    is_value IsPacket (record { from = from.first.0; to = to.first.0; view = sending.first.view; seq = sending.first.seq; ack = sending.first.ack; body = sending.first.body }) packet _ refl
    (record {
      from = first_within IsNode node_of node_within words from.first from.is;
      to = first_within IsNode node_of node_within from.first.1 to.first to.is;
      view = is.view;
      seq = is.seq;
      ack = is.ack;
      bytes = is.bytes;
    })
    sending.rest

send_within : (words : List (List ℕ)) → Good IsTraceLine (send_in words)
send_within words line e =
    let number = first_read (first_as number_of words) _ line e in
    let packet = first_read (packet_in number.first.1) _ line number.rest in
    is_value IsTraceLine (Send number.first.0 packet.first) line _ refl
    (first_within IsWide number_of number_within words number.first number.is, packet_within number.first.1 packet.first packet.is)
    packet.rest

-- answers, heads and halts

answer_within : (words : List (List ℕ)) → Good IsTraceLine (answer_in words)
answer_within words line e =
    let client = first_read (first_as client_of words) _ line e in
    let number = first_read (first_as number_of client.first.1) _ line client.rest in
    let reply = first_read (text_left number.first.1) _ line number.rest in
    is_value IsTraceLine (Answer client.first.0 number.first.0 reply.first) line _ refl
    (first_within IsClient client_of client_within words client.first client.is, first_within IsWide number_of number_within client.first.1 number.first number.is)
    reply.rest

block_within : (words : List (List ℕ)) → Good IsHead (block_in words)
block_within words block e =
    let client = first_read (first_as client_of words) _ block e in
    let number = first_read (first_as number_of client.first.1) _ block client.rest in
    let behind = first_read (behind_word (codes "blocked") number.first.1) _ block number.rest in
    let holder = first_read (first_as client_of behind.first) _ block behind.rest in
    let ino = first_read (first_as ino_of holder.first.1) _ block holder.rest in
    let word = first_read (one_word ino.first.1) _ block ino.rest in
    let held = first_read (class_of word.first) _ block word.rest in
    is_value IsHead (record { client = client.first.0; number = number.first.0; holder = holder.first.0; ino = ino.first.0; class = held.first }) block _ refl
    (first_within IsClient client_of client_within words client.first client.is, first_within IsWide number_of number_within client.first.1 number.first number.is, first_within IsClient client_of client_within behind.first holder.first holder.is, first_within (λ (i : Ino). IsNumber32 i.0) ino_of ino_within holder.first.1 ino.first ino.is)
    held.rest

head_within : (words : List (List ℕ)) → Good IsTraceLine (head_in words)
head_within words line e =
    let block = first_read (block_in words) _ line e in
    is_value IsTraceLine (Head block.first) line _ refl (block_within words block.first block.is) block.rest

fenced_within : (words : List (List ℕ)) → Good IsReason (fenced_in words)
fenced_within words halt e =
    let mine = first_read (first_as view_of words) _ halt e in
    let word = first_read (one_word mine.first.1) _ halt mine.rest in
    let current = first_read (view_of word.first) _ halt word.rest in
    is_value IsReason (Fenced mine.first.0 current.first) halt _ refl
    (first_within (λ (v : View). IsWide v.0) view_of view_within words mine.first mine.is, view_within word.first current.first current.is)
    current.rest

failed_within : (words : List (List ℕ)) → Good IsReason (failed_in words)
failed_within words halt e =
    let word = first_read (one_word words) _ halt e in
    let faults = first_read (number_of word.first) _ halt word.rest in
    is_value IsReason (Failed faults.first) halt _ refl (number_within word.first faults.first faults.is) faults.rest

damaged_within : (words : List (List ℕ)) → Good IsReason (damaged_in words)
damaged_within words halt e =
    let word = first_read (one_word words) _ halt e in
    let sector = first_read (number32_of word.first) _ halt word.rest in
    is_value IsReason (Damaged sector.first) halt _ refl (number32_within word.first sector.first sector.is) sector.rest

reason_within : (words : List (List ℕ)) → Good IsReason (reason_in words)
reason_within [] = none_good IsReason
reason_within (word ∷ behind) =
    choice (Good IsReason) (bytes_eq word (codes "fenced")) _ _ (fenced_within behind)
    (choice (Good IsReason) (bytes_eq word (codes "failed")) _ _ (failed_within behind)
    (choice (Good IsReason) (bytes_eq word (codes "stopped")) _ _ (alone_good IsReason Stopped behind tt)
    (choice (Good IsReason) (bytes_eq word (codes "damaged")) _ _ (damaged_within behind) (none_good IsReason))))

halt_within : (words : List (List ℕ)) → Good IsTraceLine (halt_in words)
halt_within words line e =
    let actor = first_read (first_as actor_of words) _ line e in
    let halt = first_read (reason_in actor.first.1) _ line actor.rest in
    is_value IsTraceLine (Halts actor.first.0 halt.first) line _ refl
    (first_within IsActor actor_of actor_within words actor.first actor.is, reason_within actor.first.1 halt.first halt.is)
    halt.rest

-- lines between steps

refused_within : (words : List (List ℕ)) → Good IsTraceLine (refused_in words)
refused_within words line e =
    let place = first_read (first_as number32_of words) _ line e in
    let word = first_read (one_word place.first.1) _ line place.rest in
    let cause = first_read (cause_of word.first) _ line word.rest in
    is_value IsTraceLine (Refused place.first.0 cause.first) line _ refl (first_within IsNumber32 number32_of number32_within words place.first place.is) cause.rest

settled_within : (words : List (List ℕ)) → Good IsTraceLine (settled_in words)
settled_within words line e =
    let place = first_read (first_as number32_of words) _ line e in
    let cycles = first_read (first_as number_of place.first.1) _ line place.rest in
    let word = first_read (one_word cycles.first.1) _ line cycles.rest in
    let how = first_read (settled_of word.first) _ line word.rest in
    is_value IsTraceLine (Settles place.first.0 cycles.first.0 how.first) line _ refl
    (first_within IsNumber32 number32_of number32_within words place.first place.is, first_within IsWide number_of number_within place.first.1 cycles.first cycles.is)
    how.rest

short_within : (word : List ℕ) (behind : List (List ℕ)) → Good IsTraceLine (short_line word behind)
short_within word behind =
    choice (Good IsTraceLine) (bytes_eq word (codes "head")) _ _ (head_within behind)
    (choice (Good IsTraceLine) (bytes_eq word (codes "halt")) _ _ (halt_within behind)
    (choice (Good IsTraceLine) (bytes_eq word (codes "refused")) _ _ (refused_within behind)
    (choice (Good IsTraceLine) (bytes_eq word (codes "settled")) _ _ (settled_within behind) (none_good IsTraceLine))))

words_within : (words : List (List ℕ)) → Good IsTraceLine (line_in words)
words_within [] = none_good IsTraceLine
words_within (word ∷ behind) =
    choice (Good IsTraceLine) (bytes_eq word (codes "step")) _ _ (step_within behind)
    (choice (Good IsTraceLine) (bytes_eq word (codes "write")) _ _ (write_within behind)
    (choice (Good IsTraceLine) (bytes_eq word (codes "entry")) _ _ (entry_within behind)
    (choice (Good IsTraceLine) (bytes_eq word (codes "send")) _ _ (send_within behind)
    (choice (Good IsTraceLine) (bytes_eq word (codes "ans")) _ _ (answer_within behind) (short_within word behind)))))

-- what a line tells is within its limits
pub line_within : (text : List ℕ) (line : TraceLine) → line_of text ≡ Ok line → IsTraceLine line
unfolding line_of
line_within text line e = words_within (words text) line e

-- the first line and the last

pub run_within : (words : List (List ℕ)) → Good IsRun (run_in words)
run_within words run e =
    let one = first_read (behind_word (codes "run") words) _ run e in
    let behind = first_read (behind_word (codes "clients") one.first) _ run one.rest in
    let clients = first_read (first_as clients_of behind.first) _ run behind.rest in
    let asked = first_read (behind_word (codes "window") clients.first.1) _ run clients.rest in
    let word = first_read (one_word asked.first) _ run asked.rest in
    let window = first_read (window_of word.first) _ run word.rest in
    let many = first_within (λ n. (1 ≤ n) × (n ≤ 16)) clients_of clients_within behind.first clients.first clients.is in
    let few = window_within word.first window.first window.is in
    is_value IsRun (clients.first.0, window.first) run _ refl (many.0, many.1, few.0, few.1) window.rest

pub end_within : (words : List (List ℕ)) → Good IsWide (end_in words)
end_within words steps e =
    let behind = first_read (behind_word (codes "end") words) _ steps e in
    let word = first_read (one_word behind.first) _ steps behind.rest in
    number_within word.first steps word.rest
