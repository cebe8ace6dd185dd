-- Calls and lines are read from their own words.
use Rattle.std.proofs.Common.{◌≡◌, ◌≤◌, ℕ, List, [], ◌∷◌, refl, ap, ◌∙◌, arith, Result, Ok, codes, decimal}
use Rattle.cal_base.specs.declared.identity.ClientId.{ClientId}
use Rattle.cal_base.specs.declared.identity.ServerId.{ServerId}
use Rattle.cal_base.specs.declared.identity.ServerId.TheVariants.{A, B}
use Rattle.cal_base.specs.declared.identity.NodeId.{NodeId}
use Rattle.tree_law.specs.Path.{IsPath, path_text}
use Rattle.tree_law.specs.declared.call.Call.{Call}
use Rattle.tree_law.specs.declared.call.Call.TheVariants.{Create, Mkdir, Unlink, Rmdir, Rename, Open, Close, Read, Write, Truncate, Stat, Readdir, Fsync}
use Rattle.tree_law.specs.declared.mode.Mode.{Mode}
use Rattle.script.specs.CallLine.{path_call, file_call, path_call_said, file_call_said, rename_said, open_said, read_said, write_said, truncate_said, call_said}
use Rattle.script.specs.CommandLine.{pair_line, node_line, packet_line, packet_said, pair_said, node_said, gone_said, view_said, write_back_said, stop_said, stop_behind, does, call_or_command, words_said, clients_of, first_said}
use Rattle.script.specs.Numbers.{number_in}
use Rattle.script.specs.Outcome.{then_read}
use Rattle.script.specs.Spelling.{client_word, server_word, node_word, mode_word, hex_text, call_words, how_words, line_words, IsBytes, IsClient, IsNode, IsCall, IsHow, IsLine, IsWide}
use Rattle.script.specs.Words.{none_of}
use Rattle.script.specs.declared.bad_line.BadWhy.{BadWhy}
use Rattle.script.specs.declared.call_name.PathCall.{PathCall}
use Rattle.script.specs.declared.call_name.PathCall.TheVariants.{Creates, Makes, Unlinks, Removes, Stats, Lists}
use Rattle.script.specs.declared.call_name.FileCall.{FileCall}
use Rattle.script.specs.declared.call_name.FileCall.TheVariants.{Closes, Syncs}
use Rattle.script.specs.declared.command.PacketCommand.{PacketCommand}
use Rattle.script.specs.declared.command.PacketCommand.TheVariants.{Delivers, Drops}
use Rattle.script.specs.declared.command.PairCommand.{PairCommand}
use Rattle.script.specs.declared.command.PairCommand.TheVariants.{Passes, Cuts, Mends}
use Rattle.script.specs.declared.command.NodeCommand.{NodeCommand}
use Rattle.script.specs.declared.command.NodeCommand.TheVariants.{Ticks, Crashes}
use Rattle.script.specs.declared.script.How.{How}
use Rattle.script.specs.declared.script.How.TheVariants.{Clean, Fill, Hex}
use Rattle.script.specs.declared.script.Line.{Line}
use Rattle.script.specs.declared.script.Line.TheVariants.{Call as Calls, Deliver, Drop, Pass, Cut, Mend, Tick, Crash, Gone, View, WriteBack, Stop, Settle}
use Rattle.script.specs.declared.script.Said.TheVariants.{Clients, Window, Line as Does}
use Rattle.script.proofs.PathWords.{path_read}
use Rattle.script.proofs.Written.{number_written, bytes_written, byte_written, client_written, node_written, mode_written}

on_path : (kind : PathCall) (path : List (List ℕ)) → IsPath path → path_call_said kind (path_text path ∷ []) ≡ Ok (path_call kind path)
on_path kind path h = rw (path_read path h) refl

rename_written : (from to : List (List ℕ)) → IsPath from → IsPath to → rename_said (path_text from ∷ path_text to ∷ []) ≡ Ok (Rename from to)
rename_written from to one two = rw (path_read from one, path_read to two) refl

open_written : (path : List (List ℕ)) (mode : Mode) → IsPath path → open_said (path_text path ∷ mode_word mode ∷ []) ≡ Ok (Open path mode)
open_written path mode h = rw (mode_written mode, path_read path h) refl

descriptor : (fd : ℕ) → fd ≤ 255 → number_in 0 255 (decimal fd) ≡ Ok fd
descriptor fd h = number_written 0 255 fd (omega arith) h (omega arith)

wide : (n : ℕ) → IsWide n → number_in 0 18446744073709551615 (decimal n) ≡ Ok n
wide n h = number_written 0 18446744073709551615 n (omega arith) h (omega arith)

on_file : (kind : FileCall) (fd : ℕ) → fd ≤ 255 → file_call_said kind (decimal fd ∷ []) ≡ Ok (file_call kind fd)
on_file kind fd h = rw (descriptor fd h) refl

read_written : (fd offset count : ℕ) → fd ≤ 255 → IsWide offset → count ≤ 262144 → read_said (decimal fd ∷ decimal offset ∷ decimal count ∷ []) ≡ Ok (Read fd offset count)
read_written fd offset count one two three = rw (descriptor fd one, wide offset two, number_written 0 262144 count (omega arith) three (omega arith)) refl

write_written : (fd offset : ℕ) (bytes : List ℕ) → fd ≤ 255 → IsWide offset → IsBytes 32768 bytes → write_said (decimal fd ∷ decimal offset ∷ hex_text bytes ∷ []) ≡ Ok (Write fd offset bytes)
write_written fd offset bytes one two three = rw (descriptor fd one, wide offset two, bytes_written 32768 bytes three) refl

truncate_written : (fd size : ℕ) → fd ≤ 255 → IsWide size → truncate_said (decimal fd ∷ decimal size ∷ []) ≡ Ok (Truncate fd size)
truncate_written fd size one two = rw (descriptor fd one, wide size two) refl

-- a call is read from its words
pub call_written : (call : Call) → IsCall call → call_said (call_words call) ≡ Ok call
call_written (Create path) h = on_path Creates path h
call_written (Mkdir path) h = on_path Makes path h
call_written (Unlink path) h = on_path Unlinks path h
call_written (Rmdir path) h = on_path Removes path h
call_written (Rename from to) h = rename_written from to h.0 h.1
call_written (Open path mode) h = open_written path mode h
call_written (Close fd) h = on_file Closes fd h
call_written (Read fd offset count) h = read_written fd offset count h.0 h.1 h.2
call_written (Write fd offset bytes) h = write_written fd offset bytes h.0 h.1 h.2
call_written (Truncate fd size) h = truncate_written fd size h.0 h.1
call_written (Stat path) h = on_path Stats path h
call_written (Readdir path) h = on_path Lists path h
call_written (Fsync fd) h = on_file Syncs fd h

on_packet : (kind : PacketCommand) (packet : ℕ) → IsWide packet → does (packet_said kind (decimal packet ∷ [])) ≡ Ok (Does (packet_line kind packet))
on_packet kind packet h = rw (wide packet h) refl

on_pair : (kind : PairCommand) (from to : NodeId) → IsNode from → IsNode to → does (pair_said kind (node_word from ∷ node_word to ∷ [])) ≡ Ok (Does (pair_line kind from to))
on_pair kind from to one two = rw (node_written from one, node_written to two) refl

on_node : (kind : NodeCommand) (node : NodeId) → IsNode node → does (node_said kind (node_word node ∷ [])) ≡ Ok (Does (node_line kind node))
on_node kind node h = rw (node_written node h) refl

gone_written : (client : ClientId) → IsClient client → does (gone_said (client_word client ∷ [])) ≡ Ok (Does (Gone client))
gone_written client h = ap (λ (r : Result ClientId BadWhy). does (then_read r (λ c. then_read (none_of []) (λ none. Ok (Gone c))))) (client_written client h)

view_written : (server : ServerId) → does (view_said (server_word server ∷ [])) ≡ Ok (Does (View server))
view_written A = refl
view_written B = refl

write_back_written : (client : ClientId) (fd : ℕ) → IsClient client → fd ≤ 255 → does (write_back_said (client_word client ∷ decimal fd ∷ [])) ≡ Ok (Does (WriteBack client fd))
write_back_written client fd one two = rw (client_written client one, descriptor fd two) refl

writes : (n : ℕ) → n ≤ 4294967295 → number_in 0 4294967295 (decimal n) ≡ Ok n
writes n h = number_written 0 4294967295 n (omega arith) h (omega arith)

how_written : (server : ServerId) (after : ℕ) (how : How) → after ≤ 4294967295 → IsHow how → stop_behind server (decimal after ∷ how_words how) ≡ Ok (Stop server after how)
how_written server after Clean one two = rw (writes after one) refl
how_written server after (Fill byte) one two = rw (writes after one, byte_written byte two) refl
how_written server after (Hex bytes) one two = rw (writes after one, bytes_written 4096 bytes two) refl

stop_written : (server : ServerId) (after : ℕ) (how : How) → after ≤ 4294967295 → IsHow how → does (stop_said (server_word server ∷ decimal after ∷ how_words how)) ≡ Ok (Does (Stop server after how))
stop_written A after how one two = ap does (how_written A after how one two)
stop_written B after how one two = ap does (how_written B after how one two)

call_line_written : (number : ℕ) (client : ClientId) (call : Call) → IsClient client → IsCall call → words_said number (client_word client ∷ call_words call) ≡ Ok (Does (Calls client call))
call_line_written number client call one two =
    ap (λ (r : Result ClientId BadWhy). call_or_command number r (client_word client) (call_words call)) (client_written client one)
    ∙ ap (λ (r : Result Call BadWhy). then_read r (λ c. Ok (Does (Calls client c)))) (call_written call two)

-- a line is read from its words
pub line_written : (number : ℕ) (line : Line) → IsLine line → words_said number (line_words line) ≡ Ok (Does line)
line_written number (Calls client call) h = call_line_written number client call h.0 h.1
line_written number (Deliver packet) h = on_packet Delivers packet h
line_written number (Drop packet) h = on_packet Drops packet h
line_written number (Pass from to) h = on_pair Passes from to h.0 h.1
line_written number (Cut from to) h = on_pair Cuts from to h.0 h.1
line_written number (Mend from to) h = on_pair Mends from to h.0 h.1
line_written number (Tick node) h = on_node Ticks node h
line_written number (Crash node) h = on_node Crashes node h
line_written number (Gone client) h = gone_written client h
line_written number (View server) h = view_written server
line_written number (WriteBack client fd) h = write_back_written client fd h.0 h.1
line_written number (Stop server after how) h = stop_written server after how h.0 h.1
line_written number Settle h = refl

pub clients_written : (count : ℕ) → 1 ≤ count → count ≤ 16 → first_said (codes "clients" ∷ decimal count ∷ []) ≡ Ok (Clients count)
clients_written count low high = ap clients_of (number_written 1 16 count low high (omega arith))

pub window_written : (window : ℕ) → 1 ≤ window → window ≤ 8 → words_said 2 (codes "window" ∷ decimal window ∷ []) ≡ Ok (Window window)
window_written window low high = ap (λ (r : Result ℕ BadWhy). then_read r (λ k. Ok (Window k))) (number_written 1 8 window low high (omega arith))
