-- Calls and lines that are read can be written.
use Rattle.std.proofs.Common.{◌≡◌, ◌≤◌, ℕ, Bool, true, false, List, [], ◌∷◌, cond, refl, sym, subst, Result, Ok, Err, codes, bytes_eq, replicate}
use Rattle.cal_base.specs.declared.identity.ClientId.{ClientId}
use Rattle.cal_base.specs.declared.identity.ServerId.{ServerId}
use Rattle.cal_base.specs.declared.identity.NodeId.{NodeId}
use Rattle.tree_law.specs.Path.{IsPath}
use Rattle.tree_law.specs.declared.call.Call.{Call}
use Rattle.tree_law.specs.declared.call.Call.TheVariants.{Rename, Open, Read, Write, Truncate}
use Rattle.script.specs.CallLine.{call_name, path_call, file_call, path_call_said, file_call_said, rename_said, second_mode, open_said, read_said, write_said, fill_said, truncate_said, call_with, call_said}
use Rattle.script.specs.CommandLine.{command_in, packet_line, pair_line, node_line, packet_said, second_node_said, pair_said, node_said, gone_said, view_said, write_back_said, how_name, how_said, stop_behind, stop_said, settle_said, window_said, does, command_with, client_call, command_said, call_or_command, words_said, clients_of, first_said}
use Rattle.script.specs.Numbers.{number_in, hex_in, byte_of}
use Rattle.script.specs.Places.{path_in, client_in, server_in, node_in}
use Rattle.script.specs.Spelling.{IsClient, IsNode, IsCall, IsLine, IsSaid, IsWide}
use Rattle.script.specs.Words.{none_of, one_of, two_of, three_of, four_of}
use Rattle.script.specs.declared.bad_line.BadWhy.{BadWhy}
use Rattle.script.specs.declared.bad_line.BadWhy.TheVariants.{Count, First}
use Rattle.script.specs.declared.call_name.CallName.{CallName}
use Rattle.script.specs.declared.call_name.CallName.TheVariants.{OnPath, OnFile, Renames, Opens, Reads, Writes, Fills, Truncates}
use Rattle.script.specs.declared.call_name.PathCall.{PathCall}
use Rattle.script.specs.declared.call_name.PathCall.TheVariants.{Creates, Makes, Unlinks, Removes, Stats, Lists}
use Rattle.script.specs.declared.call_name.FileCall.{FileCall}
use Rattle.script.specs.declared.call_name.FileCall.TheVariants.{Closes, Syncs}
use Rattle.script.specs.declared.command.Command.{Command}
use Rattle.script.specs.declared.command.Command.TheVariants.{OnPacket, OnPair, OnNode, Declares, Moves, WritesBack, Stops, Settles, Windows}
use Rattle.script.specs.declared.command.PacketCommand.{PacketCommand}
use Rattle.script.specs.declared.command.PacketCommand.TheVariants.{Delivers, Drops}
use Rattle.script.specs.declared.command.PairCommand.{PairCommand}
use Rattle.script.specs.declared.command.PairCommand.TheVariants.{Passes, Cuts, Mends}
use Rattle.script.specs.declared.command.NodeCommand.{NodeCommand}
use Rattle.script.specs.declared.command.NodeCommand.TheVariants.{Ticks, Crashes}
use Rattle.script.specs.declared.command.HowName.{HowName}
use Rattle.script.specs.declared.command.HowName.TheVariants.{Cleanly, Filled, Spelled}
use Rattle.script.specs.declared.script.How.TheVariants.{Clean, Fill, Hex}
use Rattle.script.specs.declared.script.Line.{Line}
use Rattle.script.specs.declared.script.Line.TheVariants.{Call as Calls, Gone, View, WriteBack, Stop, Settle}
use Rattle.script.specs.declared.script.Said.{Said}
use Rattle.script.specs.declared.script.Said.TheVariants.{Nothing, Clients, Window, Line as Does}
use Rattle.script.proofs.ReadPlaces.{same_read, no_value, first_read, number_range, path_range, bytes_range, byte_range, filled_range, client_range, node_range}

abbrev ok : {T : Type 0} → T → Result T BadWhy
ok value = Ok value

-- the value behind `Ok`
is_value : {T : Type 0} (P : T → Type 0) (one value : T) → P one → ok one ≡ ok value → P value
is_value P one value h e = subst P (same_read one value (Ok one) refl e) h

path_call_good : (kind : PathCall) (path : List (List ℕ)) → IsPath path → IsCall (path_call kind path)
path_call_good Creates path h = h
path_call_good Makes path h = h
path_call_good Unlinks path h = h
path_call_good Removes path h = h
path_call_good Stats path h = h
path_call_good Lists path h = h

file_call_good : (kind : FileCall) (fd : ℕ) → fd ≤ 255 → IsCall (file_call kind fd)
file_call_good Closes fd h = h
file_call_good Syncs fd h = h

on_path : (kind : PathCall) (args : List (List ℕ)) (call : Call) → path_call_said kind args ≡ Ok call → IsCall call
on_path kind args call e =
    let one = first_read (one_of args) _ call e in
    let two = first_read (path_in one.first) _ call one.rest in
    is_value IsCall _ call (path_call_good kind two.first (path_range one.first two.first two.is)) two.rest

on_file : (kind : FileCall) (args : List (List ℕ)) (call : Call) → file_call_said kind args ≡ Ok call → IsCall call
on_file kind args call e =
    let one = first_read (one_of args) _ call e in
    let two = first_read (number_in 0 255 one.first) _ call one.rest in
    is_value IsCall _ call (file_call_good kind two.first (number_range 0 255 two.first one.first two.is).1) two.rest

rename_good : (args : List (List ℕ)) (call : Call) → rename_said args ≡ Ok call → IsCall call
rename_good args call e =
    let one = first_read (two_of args) _ call e in
    let two = first_read (path_in one.first.first) _ call one.rest in
    let three = first_read (path_in one.first.second) _ call two.rest in
    is_value IsCall (Rename two.first three.first) call (path_range one.first.first two.first two.is, path_range one.first.second three.first three.is) three.rest

open_good : (args : List (List ℕ)) (call : Call) → open_said args ≡ Ok call → IsCall call
open_good args call e =
    let one = first_read (second_mode args) _ call e in
    let two = first_read (two_of args) _ call one.rest in
    let three = first_read (path_in two.first.first) _ call two.rest in
    is_value IsCall (Open three.first one.first) call (path_range two.first.first three.first three.is) three.rest

read_good : (args : List (List ℕ)) (call : Call) → read_said args ≡ Ok call → IsCall call
read_good args call e =
    let one = first_read (three_of args) _ call e in
    let two = first_read (number_in 0 255 one.first.first) _ call one.rest in
    let three = first_read (number_in 0 18446744073709551615 one.first.second) _ call two.rest in
    let four = first_read (number_in 0 262144 one.first.third) _ call three.rest in
    is_value IsCall (Read two.first three.first four.first) call ((number_range 0 255 two.first one.first.first two.is).1, (number_range 0 18446744073709551615 three.first one.first.second three.is).1, (number_range 0 262144 four.first one.first.third four.is).1) four.rest

write_good : (args : List (List ℕ)) (call : Call) → write_said args ≡ Ok call → IsCall call
write_good args call e =
    let one = first_read (three_of args) _ call e in
    let two = first_read (number_in 0 255 one.first.first) _ call one.rest in
    let three = first_read (number_in 0 18446744073709551615 one.first.second) _ call two.rest in
    let four = first_read (hex_in 32768 one.first.third) _ call three.rest in
    is_value IsCall (Write two.first three.first four.first) call ((number_range 0 255 two.first one.first.first two.is).1, (number_range 0 18446744073709551615 three.first one.first.second three.is).1, bytes_range 32768 one.first.third four.first four.is) four.rest

fill_good : (args : List (List ℕ)) (call : Call) → fill_said args ≡ Ok call → IsCall call
fill_good args call e =
    let one = first_read (four_of args) _ call e in
    let two = first_read (number_in 0 255 one.first.first) _ call one.rest in
    let three = first_read (number_in 0 18446744073709551615 one.first.second) _ call two.rest in
    let four = first_read (number_in 1 32768 one.first.third) _ call three.rest in
    let five = first_read (byte_of one.first.fourth) _ call four.rest in
    let range = number_range 1 32768 four.first one.first.third four.is in
    is_value IsCall (Write two.first three.first (replicate four.first five.first)) call ((number_range 0 255 two.first one.first.first two.is).1, (number_range 0 18446744073709551615 three.first one.first.second three.is).1, filled_range four.first five.first range.0 range.1 (byte_range one.first.fourth five.first five.is)) five.rest

truncate_good : (args : List (List ℕ)) (call : Call) → truncate_said args ≡ Ok call → IsCall call
truncate_good args call e =
    let one = first_read (two_of args) _ call e in
    let two = first_read (number_in 0 255 one.first.first) _ call one.rest in
    let three = first_read (number_in 0 18446744073709551615 one.first.second) _ call two.rest in
    is_value IsCall (Truncate two.first three.first) call ((number_range 0 255 two.first one.first.first two.is).1, (number_range 0 18446744073709551615 three.first one.first.second three.is).1) three.rest

with_good : (name : CallName) (args : List (List ℕ)) (call : Call) → call_with name args ≡ Ok call → IsCall call
with_good (OnPath kind) args call e = on_path kind args call e
with_good (OnFile kind) args call e = on_file kind args call e
with_good Renames args call e = rename_good args call e
with_good Opens args call e = open_good args call e
with_good Reads args call e = read_good args call e
with_good Writes args call e = write_good args call e
with_good Fills args call e = fill_good args call e
with_good Truncates args call e = truncate_good args call e

-- a call that is read can be written
pub call_good : (words : List (List ℕ)) (call : Call) → call_said words ≡ Ok call → IsCall call
call_good [] call e = absurd (no_value Count call (Err Count) refl e)
call_good (name ∷ args) call e = let one = first_read (call_name name) _ call e in with_good one.first args call one.rest

packet_line_good : (kind : PacketCommand) (packet : ℕ) → IsWide packet → IsLine (packet_line kind packet)
packet_line_good Delivers packet h = h
packet_line_good Drops packet h = h

pair_line_good : (kind : PairCommand) (from to : NodeId) → IsNode from → IsNode to → IsLine (pair_line kind from to)
pair_line_good Passes from to one two = (one, two)
pair_line_good Cuts from to one two = (one, two)
pair_line_good Mends from to one two = (one, two)

node_line_good : (kind : NodeCommand) (node : NodeId) → IsNode node → IsLine (node_line kind node)
node_line_good Ticks node h = h
node_line_good Crashes node h = h

packet_good : (kind : PacketCommand) (args : List (List ℕ)) (line : Line) → packet_said kind args ≡ Ok line → IsLine line
packet_good kind args line e =
    let one = first_read (one_of args) _ line e in
    let two = first_read (number_in 0 18446744073709551615 one.first) _ line one.rest in
    is_value IsLine _ line (packet_line_good kind two.first (number_range 0 18446744073709551615 two.first one.first two.is).1) two.rest

second_node_good : (kind : PairCommand) (from : NodeId) (args : List (List ℕ)) (line : Line) → IsNode from → second_node_said kind from args ≡ Ok line → IsLine line
second_node_good kind from [] line h e = absurd (no_value Count line (Err Count) refl e)
second_node_good kind from (word ∷ args) line h e =
    let one = first_read (node_in word) _ line e in
    let two = first_read (none_of args) _ line one.rest in
    is_value IsLine _ line (pair_line_good kind from one.first h (node_range word one.first one.is)) two.rest

pair_good : (kind : PairCommand) (args : List (List ℕ)) (line : Line) → pair_said kind args ≡ Ok line → IsLine line
pair_good kind [] line e = absurd (no_value Count line (Err Count) refl e)
pair_good kind (word ∷ args) line e =
    let one = first_read (node_in word) _ line e in
    second_node_good kind one.first args line (node_range word one.first one.is) one.rest

node_good : (kind : NodeCommand) (args : List (List ℕ)) (line : Line) → node_said kind args ≡ Ok line → IsLine line
node_good kind [] line e = absurd (no_value Count line (Err Count) refl e)
node_good kind (word ∷ args) line e =
    let one = first_read (node_in word) _ line e in
    let two = first_read (none_of args) _ line one.rest in
    is_value IsLine _ line (node_line_good kind one.first (node_range word one.first one.is)) two.rest

gone_good : (args : List (List ℕ)) (line : Line) → gone_said args ≡ Ok line → IsLine line
gone_good [] line e = absurd (no_value Count line (Err Count) refl e)
gone_good (word ∷ args) line e =
    let one = first_read (client_in word) _ line e in
    let two = first_read (none_of args) _ line one.rest in
    is_value IsLine (Gone one.first) line (client_range word one.first one.is) two.rest

view_good : (args : List (List ℕ)) (line : Line) → view_said args ≡ Ok line → IsLine line
view_good [] line e = absurd (no_value Count line (Err Count) refl e)
view_good (word ∷ args) line e =
    let one = first_read (server_in word) _ line e in
    let two = first_read (none_of args) _ line one.rest in
    is_value IsLine (View one.first) line tt two.rest

write_back_good : (args : List (List ℕ)) (line : Line) → write_back_said args ≡ Ok line → IsLine line
write_back_good [] line e = absurd (no_value Count line (Err Count) refl e)
write_back_good (word ∷ args) line e =
    let one = first_read (client_in word) _ line e in
    let two = first_read (one_of args) _ line one.rest in
    let three = first_read (number_in 0 255 two.first) _ line two.rest in
    is_value IsLine (WriteBack one.first three.first) line (client_range word one.first one.is, (number_range 0 255 three.first two.first three.is).1) three.rest

how_good : (server : ServerId) (after : List ℕ) (name : HowName) (args : List (List ℕ)) (line : Line) → how_said server after name args ≡ Ok line → IsLine line
how_good server after Cleanly args line e =
    let one = first_read (none_of args) _ line e in
    let two = first_read (number_in 0 4294967295 after) _ line one.rest in
    is_value IsLine (Stop server two.first Clean) line ((number_range 0 4294967295 two.first after two.is).1, tt) two.rest
how_good server after Filled args line e =
    let one = first_read (one_of args) _ line e in
    let two = first_read (number_in 0 4294967295 after) _ line one.rest in
    let three = first_read (byte_of one.first) _ line two.rest in
    is_value IsLine (Stop server two.first (Fill three.first)) line ((number_range 0 4294967295 two.first after two.is).1, byte_range one.first three.first three.is) three.rest
how_good server after Spelled args line e =
    let one = first_read (one_of args) _ line e in
    let two = first_read (number_in 0 4294967295 after) _ line one.rest in
    let three = first_read (hex_in 4096 one.first) _ line two.rest in
    is_value IsLine (Stop server two.first (Hex three.first)) line ((number_range 0 4294967295 two.first after two.is).1, bytes_range 4096 one.first three.first three.is) three.rest

stop_behind_good : (server : ServerId) (args : List (List ℕ)) (line : Line) → stop_behind server args ≡ Ok line → IsLine line
stop_behind_good server [] line e = absurd (no_value Count line (Err Count) refl e)
stop_behind_good server (after ∷ []) line e = absurd (no_value Count line (Err Count) refl e)
stop_behind_good server (after ∷ how ∷ args) line e =
    let one = first_read (how_name how) _ line e in
    how_good server after one.first args line one.rest

stop_good : (args : List (List ℕ)) (line : Line) → stop_said args ≡ Ok line → IsLine line
stop_good [] line e = absurd (no_value Count line (Err Count) refl e)
stop_good (word ∷ args) line e =
    let one = first_read (server_in word) _ line e in
    stop_behind_good one.first args line one.rest

settle_good : (args : List (List ℕ)) (line : Line) → settle_said args ≡ Ok line → IsLine line
settle_good args line e = let one = first_read (none_of args) _ line e in is_value IsLine Settle line tt one.rest

does_good : (r : Result Line BadWhy) (said : Said) → ((line : Line) → r ≡ Ok line → IsLine line) → does r ≡ Ok said → IsSaid said
does_good r said h e = let one = first_read r _ said e in is_value IsSaid (Does one.first) said (h one.first one.is) one.rest

window_good : (args : List (List ℕ)) (said : Said) → window_said args ≡ Ok said → IsSaid said
window_good args said e =
    let one = first_read (one_of args) _ said e in
    let two = first_read (number_in 1 8 one.first) _ said one.rest in
    is_value IsSaid (Window two.first) said (number_range 1 8 two.first one.first two.is) two.rest

command_good : (command : Command) (args : List (List ℕ)) (said : Said) → command_with command args ≡ Ok said → IsSaid said
command_good (OnPacket kind) args said e = does_good (packet_said kind args) said (packet_good kind args) e
command_good (OnPair kind) args said e = does_good (pair_said kind args) said (pair_good kind args) e
command_good (OnNode kind) args said e = does_good (node_said kind args) said (node_good kind args) e
command_good Declares args said e = does_good (gone_said args) said (gone_good args) e
command_good Moves args said e = does_good (view_said args) said (view_good args) e
command_good WritesBack args said e = does_good (write_back_said args) said (write_back_good args) e
command_good Stops args said e = does_good (stop_said args) said (stop_good args) e
command_good Settles args said e = does_good (settle_said args) said (settle_good args) e
command_good Windows args said e = window_good args said e

client_call_good : (client : ClientId) (args : List (List ℕ)) (said : Said) → IsClient client → client_call client args ≡ Ok said → IsSaid said
client_call_good client args said h e =
    let one = first_read (call_said args) _ said e in
    is_value IsSaid (Does (Calls client one.first)) said (h, call_good args one.first one.is) one.rest

command_said_good : (number : ℕ) (word : List ℕ) (args : List (List ℕ)) (said : Said) → command_said number word args ≡ Ok said → IsSaid said
command_said_good number word args said e = let one = first_read (command_in number word) _ said e in command_good one.first args said one.rest

call_or_good : (number : ℕ) (r : Result ClientId BadWhy) (word : List ℕ) (args : List (List ℕ)) (said : Said) → ((client : ClientId) → r ≡ Ok client → IsClient client) → call_or_command number r word args ≡ Ok said → IsSaid said
call_or_good number (Ok client) word args said h e = client_call_good client args said (h client refl) e
call_or_good number (Err why) word args said h e = command_said_good number word args said e

-- what the words of a line say can be written
pub words_good : (number : ℕ) (words : List (List ℕ)) (said : Said) → words_said number words ≡ Ok said → IsSaid said
words_good number [] said e = is_value IsSaid Nothing said tt e
words_good number (word ∷ args) said e = call_or_good number (client_in word) word args said (client_range word) e

of_clients : (b : Bool) (count : List ℕ) (r : Result ℕ BadWhy) (said : Said) → r ≡ number_in 1 16 count → cond b (clients_of r) (Err First) ≡ Ok said → IsSaid said
of_clients true count (Ok n) said is e = is_value IsSaid (Clients n) said (number_range 1 16 n count (sym is)) e
of_clients true count (Err why) said is e = absurd (no_value First said (Err First) refl e)
of_clients false count r said is e = absurd (no_value First said (Err First) refl e)

pub first_good : (words : List (List ℕ)) (said : Said) → first_said words ≡ Ok said → IsSaid said
first_good [] said e = absurd (no_value First said (Err First) refl e)
first_good (word ∷ []) said e = absurd (no_value First said (Err First) refl e)
first_good (word ∷ count ∷ []) said e = of_clients (bytes_eq word (codes "clients")) count (number_in 1 16 count) said refl e
first_good (word ∷ count ∷ other ∷ more) said e = absurd (no_value First said (Err First) refl e)
