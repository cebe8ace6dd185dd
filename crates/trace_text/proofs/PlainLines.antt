-- Lines without a byte below the space.
use Rattle.std.proofs.Common.{◌≡◌, ◌==◌, ◌++◌, ℕ, Bool, true, false, List, [], ◌∷◌, Option, codes, refl, if◌then◌else◌}
use Rattle.std.specs.Fmt.{decimal}
use Rattle.cal_base.specs.declared.identity.ClientId.{ClientId}
use Rattle.cal_base.specs.declared.identity.Ino.{Ino}
use Rattle.cal_base.specs.declared.identity.NodeId.{NodeId}
use Rattle.tree_law.specs.declared.entry.Entry.{Entry}
use Rattle.tree_law.specs.declared.entry.Entry.TheVariants.{Call as Called, Flush, Purge}
use Rattle.tree_law.specs.declared.reply.Reply.{Reply}
use Rattle.token_kind.specs.declared.block.Block.{Block}
use Rattle.token_kind.specs.declared.«class».Class.{Class}
use Rattle.token_kind.specs.declared.«class».Class.TheVariants.{Names, Data, Attr, Open}
use Rattle.session.specs.declared.packet.Packet.{Packet}
use Rattle.cluster_law.specs.declared.step.Halt.{Halt}
use Rattle.cluster_law.specs.declared.step.Halt.TheVariants.{Fenced, Failed, Stopped, Damaged}
use Rattle.cluster_law.specs.declared.step.TraceStep.{TraceStep}
use Rattle.reply_text.specs.Text.{reply_text}
use Rattle.script.specs.Spelling.{node_word}
use Rattle.trace_text.specs.Entries.{answer_line, call_entry_line, entry_front, entry_line, new_text}
use Rattle.trace_text.specs.Events.{event_text}
use Rattle.trace_text.specs.Kinds.{HasCall, HasNames, HasReply, is_plain}
use Rattle.trace_text.specs.Line.{actor_word, hex_or_dash}
use Rattle.trace_text.specs.Packets.{body_name, body_text, kind_name, packet_counts, packet_line, packet_route}
use Rattle.trace_text.specs.Sectors.{sector_text, trimmed, write_line}
use Rattle.trace_text.specs.Serving.{blocker_text, class_word, halt_line, head_line, reason_text, request_text}
use Rattle.trace_text.specs.Steps.{step_line}
use Rattle.trace_text.specs.declared.steps.Place.{Place}
use Rattle.trace_text.proofs.PlainText.{plain_actor, plain_both, plain_decimal, plain_four, plain_hex_or_dash, plain_node, plain_three}
use Rattle.trace_text.proofs.PlainWords.{plain_event, plain_new, plain_reply}

pub plain_step_line : (place : Place) (step : TraceStep) → HasCall step.event → is_plain (step_line place step) ≡ true
plain_step_line place step has =
    plain_three (codes "step " ++ decimal place.step ++ codes " " ++ actor_word step.node) (codes " ") (event_text place.call place.view.0 step.event)
    (plain_four (codes "step ") (decimal place.step) (codes " ") (actor_word step.node) refl (plain_decimal place.step) refl (plain_actor step.node)) refl (plain_event place.call place.view.0 step.event has)

pub plain_write_line : (write : ℕ × List ℕ) → is_plain (write_line write) ≡ true
plain_write_line write = plain_four (codes "write ") (decimal write.0) (codes " ") (sector_text write.1) refl (plain_decimal write.0) refl (plain_hex_or_dash (trimmed write.1))

-- words of a kind, a client, and a number behind them
plain_front_of : (words : List ℕ) (client : ClientId) (number : ℕ) → is_plain words ≡ true → is_plain (words ++ decimal client.0 ++ codes " " ++ decimal number) ≡ true
plain_front_of words client number are = plain_four words (decimal client.0) (codes " ") (decimal number) are (plain_decimal client.0) refl (plain_decimal number)

plain_call_entry : (client : ClientId) (number : ℕ) (reply : Reply) (new : Option Ino) → HasNames reply → is_plain (call_entry_line client number reply new) ≡ true
plain_call_entry client number reply new has =
    plain_three (entry_front client number new) (codes " reply ") (reply_text reply)
    (plain_three (codes "entry call c" ++ decimal client.0 ++ codes " " ++ decimal number) (codes " new ") (new_text new) (plain_front_of (codes "entry call c") client number refl) refl (plain_new new)) refl (plain_reply reply has)

pub plain_entry_line : (one : Entry) → HasReply one → is_plain (entry_line one) ≡ true
plain_entry_line (Called client number call reply new) has = plain_call_entry client number reply new has
plain_entry_line (Flush client ino) has = plain_front_of (codes "entry flush c") client ino.0 refl
plain_entry_line (Purge client) has = plain_both (codes "entry purge c") (decimal client.0) refl (plain_decimal client.0)

-- packets

choice : (b : Bool) (one other : List ℕ) → is_plain one ≡ true → is_plain other ≡ true → is_plain (if b then one else other) ≡ true
choice true one other is is_too = is
choice false one other is is_too = is_too

plain_kind : (kind : ℕ) → is_plain (kind_name kind) ≡ true
plain_kind kind =
    choice (kind == 1) _ _ refl (choice (kind == 2) _ _ refl (choice (kind == 3) _ _ refl (choice (kind == 4) _ _ refl (choice (kind == 5) _ _ refl (choice (kind == 6) _ _ refl (choice (kind == 7) _ _ refl (
    choice (kind == 8) _ _ refl (choice (kind == 9) _ _ refl (choice (kind == 10) _ _ refl (choice (kind == 11) _ _ refl (choice (kind == 12) _ _ refl (choice (kind == 13) _ _ refl refl))))))))))))

plain_name : (body : List ℕ) → is_plain (body_name body) ≡ true
plain_name [] = refl
plain_name (kind ∷ fields) = plain_kind kind

plain_body : (body : List ℕ) → is_plain (body_text body) ≡ true
plain_body body = plain_four (codes " ") (body_name body) (codes " ") (hex_or_dash body) refl (plain_name body) refl (plain_hex_or_dash body)

plain_route : (number : ℕ) (packet : Packet) → is_plain (packet_route number packet) ≡ true
plain_route number packet =
    plain_three (codes "send " ++ decimal number ++ codes " " ++ node_word packet.from) (codes " ") (node_word packet.to)
    (plain_four (codes "send ") (decimal number) (codes " ") (node_word packet.from) refl (plain_decimal number) refl (plain_node packet.from)) refl (plain_node packet.to)

plain_counts : (packet : Packet) → is_plain (packet_counts packet) ≡ true
plain_counts packet =
    plain_three (codes " " ++ decimal packet.view.0 ++ codes " " ++ decimal packet.seq) (codes " ") (decimal packet.ack)
    (plain_four (codes " ") (decimal packet.view.0) (codes " ") (decimal packet.seq) refl (plain_decimal packet.view.0) refl (plain_decimal packet.seq)) refl (plain_decimal packet.ack)

pub plain_packet_line : (number : ℕ) (packet : Packet) → is_plain (packet_line number packet) ≡ true
plain_packet_line number packet = plain_three (packet_route number packet) (packet_counts packet) (body_text packet.body) (plain_route number packet) (plain_counts packet) (plain_body packet.body)

-- answers, heads and halts

pub plain_answer_line : (client : ClientId) (number : ℕ) (reply : Reply) → HasNames reply → is_plain (answer_line client number reply) ≡ true
plain_answer_line client number reply has =
    plain_three (codes "ans c" ++ decimal client.0 ++ codes " " ++ decimal number) (codes " ") (reply_text reply) (plain_front_of (codes "ans c") client number refl) refl (plain_reply reply has)

plain_class : (c : Class) → is_plain (class_word c) ≡ true
plain_class Names = refl
plain_class Data = refl
plain_class Attr = refl
plain_class Open = refl

pub plain_head_line : (block : Block) → is_plain (head_line block) ≡ true
plain_head_line block =
    plain_both (request_text block) (blocker_text block) (plain_front_of (codes "head c") block.client block.number refl)
    (plain_three (codes " blocked c" ++ decimal block.holder.0 ++ codes " " ++ decimal block.ino.0) (codes " ") (class_word block.class) (plain_front_of (codes " blocked c") block.holder block.ino.0 refl) refl (plain_class block.class))

plain_reason : (halt : Halt) → is_plain (reason_text halt) ≡ true
plain_reason (Fenced mine current) = plain_four (codes "fenced ") (decimal mine.0) (codes " ") (decimal current.0) refl (plain_decimal mine.0) refl (plain_decimal current.0)
plain_reason (Failed faults) = plain_both (codes "failed ") (decimal faults) refl (plain_decimal faults)
plain_reason Stopped = refl
plain_reason (Damaged sector) = plain_both (codes "damaged ") (decimal sector) refl (plain_decimal sector)

pub plain_halt_line : (actor : Option NodeId) (halt : Halt) → is_plain (halt_line actor halt) ≡ true
plain_halt_line actor halt = plain_four (codes "halt ") (actor_word actor) (codes " ") (reason_text halt) refl (plain_actor actor) refl (plain_reason halt)
