-- Packets that are sent.
use Rattle.std.specs.Prelude.{ℕ, ◌+◌, ◌==◌, List, [], ◌∷◌, ◌++◌, codes, if◌then◌else◌}
use Rattle.std.specs.Fmt.{decimal}
use Rattle.session.specs.declared.packet.Packet.{Packet}
use Rattle.script.specs.Spelling.{node_word}
use Rattle.trace_text.specs.Line.{line, hex_or_dash}

-- the name of a message, by its first byte; a dash where no message begins so
abbrev pub kind_name : ℕ → List ℕ
kind_name kind =
    if kind == 1 then codes "Acquire"
    else if kind == 2 then codes "Grant"
    else if kind == 3 then codes "Refuse"
    else if kind == 4 then codes "Change"
    else if kind == 5 then codes "Done"
    else if kind == 6 then codes "Flush"
    else if kind == 7 then codes "Flushed"
    else if kind == 8 then codes "Revoke"
    else if kind == 9 then codes "Release"
    else if kind == 10 then codes "Ask"
    else if kind == 11 then codes "Piece"
    else if kind == 12 then codes "Wait"
    else if kind == 13 then codes "Admit"
    else codes "-"

-- the name of what a packet carries: a bare acknowledgement carries nothing
abbrev pub body_name : List ℕ → List ℕ
body_name [] = codes "Ack"
body_name (kind ∷ fields) = kind_name kind

-- the packet's number, who sent it and for whom it is
abbrev pub packet_route : ℕ → Packet → List ℕ
packet_route number packet = codes "send " ++ decimal number ++ codes " " ++ node_word packet.from ++ codes " " ++ node_word packet.to

-- its view, the number of its message, and how many messages its sender has taken
abbrev pub packet_counts : Packet → List ℕ
packet_counts packet = codes " " ++ decimal packet.view.0 ++ codes " " ++ decimal packet.seq ++ codes " " ++ decimal packet.ack

-- its message by name and byte for byte
abbrev pub body_text : List ℕ → List ℕ
body_text body = codes " " ++ body_name body ++ codes " " ++ hex_or_dash body

abbrev pub packet_line : ℕ → Packet → List ℕ
packet_line number packet = packet_route number packet ++ packet_counts packet ++ body_text packet.body

-- a line for each packet, in order; packets are numbered in the order in which they are sent
abbrev pub packets_text : ℕ → List Packet → List ℕ
packets_text number [] = []
packets_text number (packet ∷ packets) = line (packet_line number packet) ++ packets_text (number + 1) packets
