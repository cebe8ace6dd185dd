-- A line's command, from its words.
use Rattle.std.specs.Prelude.{ℕ, ◌==◌, List, [], ◌∷◌, if◌then◌else◌, Result, Ok, Err, codes, bytes_eq}
use Rattle.cal_base.specs.Limits as limits
use Rattle.cal_base.specs.declared.identity.NodeId.{NodeId}
use Rattle.cal_base.specs.declared.identity.ClientId.{ClientId}
use Rattle.cal_base.specs.declared.identity.ServerId.{ServerId}
use Rattle.script.specs.CallLine.{call_said, descriptor_in}
use Rattle.script.specs.Numbers.{number_in, hex_in, byte_of}
use Rattle.script.specs.Outcome.{then_read}
use Rattle.script.specs.Places.{client_in, server_in, node_in}
use Rattle.script.specs.Words.{none_of, one_of}
use Rattle.script.specs.declared.bad_line.BadWhy.{BadWhy}
use Rattle.script.specs.declared.bad_line.BadWhy.TheVariants.{Word, Count, First}
use Rattle.script.specs.declared.command.Command.{Command}
use Rattle.script.specs.declared.command.Command.TheVariants.{OnPacket, OnPair, OnNode, Declares, Moves, WritesBack, Stops, Settles, Windows}
use Rattle.script.specs.declared.command.PacketCommand.{PacketCommand}
use Rattle.script.specs.declared.command.PacketCommand.TheVariants.{Delivers, Drops}
use Rattle.script.specs.declared.command.PairCommand.{PairCommand}
use Rattle.script.specs.declared.command.PairCommand.TheVariants.{Passes, Cuts, Mends}
use Rattle.script.specs.declared.command.NodeCommand.{NodeCommand}
use Rattle.script.specs.declared.command.NodeCommand.TheVariants.{Ticks, Crashes}
use Rattle.script.specs.declared.command.HowName.{HowName}
use Rattle.script.specs.declared.command.HowName.TheVariants.{Cleanly, Filled, Spelled}
use Rattle.script.specs.declared.script.How.TheVariants.{Clean, Fill, Hex}
use Rattle.script.specs.declared.script.Line.{Line}
use Rattle.script.specs.declared.script.Line.TheVariants.{Call, Deliver, Drop, Pass, Cut, Mend, Tick, Crash, Gone, View, WriteBack, Stop, Settle}
use Rattle.script.specs.declared.script.Said.{Said}
use Rattle.script.specs.declared.script.Said.TheVariants.{Nothing, Clients, Window, Line as Does}

-- the command on packets or nodes that a word names, or what follows
abbrev pub first_commands_or : List ℕ → Result Command BadWhy → Result Command BadWhy
first_commands_or word other =
    if bytes_eq word (codes "deliver") then Ok (OnPacket Delivers)
    else if bytes_eq word (codes "drop") then Ok (OnPacket Drops)
    else if bytes_eq word (codes "pass") then Ok (OnPair Passes)
    else if bytes_eq word (codes "cut") then Ok (OnPair Cuts)
    else if bytes_eq word (codes "mend") then Ok (OnPair Mends)
    else if bytes_eq word (codes "tick") then Ok (OnNode Ticks)
    else if bytes_eq word (codes "crash") then Ok (OnNode Crashes)
    else other

-- any other command that a word names; `window` stands in line 2 alone
abbrev pub other_command : ℕ → List ℕ → Result Command BadWhy
other_command number word =
    if bytes_eq word (codes "gone") then Ok Declares
    else if bytes_eq word (codes "view") then Ok Moves
    else if bytes_eq word (codes "writeback") then Ok WritesBack
    else if bytes_eq word (codes "stop") then Ok Stops
    else if bytes_eq word (codes "settle") then Ok Settles
    else if bytes_eq word (codes "window") then (if number == 2 then Ok Windows else Err Word)
    else Err Word

-- the command that a word names in the line of this number
abbrev pub command_in : ℕ → List ℕ → Result Command BadWhy
command_in number word = first_commands_or word (other_command number word)

abbrev pub packet_line : PacketCommand → ℕ → Line
packet_line Delivers packet = Deliver packet
packet_line Drops packet = Drop packet

abbrev pub pair_line : PairCommand → NodeId → NodeId → Line
pair_line Passes from to = Pass from to
pair_line Cuts from to = Cut from to
pair_line Mends from to = Mend from to

abbrev pub node_line : NodeCommand → NodeId → Line
node_line Ticks node = Tick node
node_line Crashes node = Crash node

-- `deliver P` or `drop P`
abbrev pub packet_said : PacketCommand → List (List ℕ) → Result Line BadWhy
packet_said command args = then_read (one_of args) (λ word. then_read (number_in 0 18446744073709551615 word) (λ packet. Ok (packet_line command packet)))

-- the second node of `pass X Y`, `cut X Y` or `mend X Y`
abbrev pub second_node_said : PairCommand → NodeId → List (List ℕ) → Result Line BadWhy
second_node_said command from [] = Err Count
second_node_said command from (word ∷ args) = then_read (node_in word) (λ to. then_read (none_of args) (λ none. Ok (pair_line command from to)))

-- `pass X Y`, `cut X Y` or `mend X Y`
abbrev pub pair_said : PairCommand → List (List ℕ) → Result Line BadWhy
pair_said command [] = Err Count
pair_said command (word ∷ args) = then_read (node_in word) (λ from. second_node_said command from args)

-- `tick X` or `crash X`
abbrev pub node_said : NodeCommand → List (List ℕ) → Result Line BadWhy
node_said command [] = Err Count
node_said command (word ∷ args) = then_read (node_in word) (λ node. then_read (none_of args) (λ none. Ok (node_line command node)))

-- `gone cX`
abbrev pub gone_said : List (List ℕ) → Result Line BadWhy
gone_said [] = Err Count
gone_said (word ∷ args) = then_read (client_in word) (λ client. then_read (none_of args) (λ none. Ok (Gone client)))

-- `view S`
abbrev pub view_said : List (List ℕ) → Result Line BadWhy
view_said [] = Err Count
view_said (word ∷ args) = then_read (server_in word) (λ server. then_read (none_of args) (λ none. Ok (View server)))

-- `writeback cX F`
abbrev pub write_back_said : List (List ℕ) → Result Line BadWhy
write_back_said [] = Err Count
write_back_said (word ∷ args) = then_read (client_in word) (λ client. then_read (one_of args) (λ file. then_read (descriptor_in file) (λ fd. Ok (WriteBack client fd))))

-- `clean`, `fill` or `hex`
abbrev pub how_name : List ℕ → Result HowName BadWhy
how_name word = if bytes_eq word (codes "clean") then Ok Cleanly else if bytes_eq word (codes "fill") then Ok Filled else if bytes_eq word (codes "hex") then Ok Spelled else Err Word

-- a count of writes
abbrev pub writes_in : List ℕ → Result ℕ BadWhy
writes_in word = number_in 0 4294967295 word

-- the places of `stop S K HOW` behind the name of HOW
abbrev pub how_said : ServerId → List ℕ → HowName → List (List ℕ) → Result Line BadWhy
how_said server after Cleanly args = then_read (none_of args) (λ none. then_read (writes_in after) (λ writes. Ok (Stop server writes Clean)))
how_said server after Filled args = then_read (one_of args) (λ word. then_read (writes_in after) (λ writes. then_read (byte_of word) (λ byte. Ok (Stop server writes (Fill byte)))))
how_said server after Spelled args = then_read (one_of args) (λ word. then_read (writes_in after) (λ writes. then_read (hex_in limits.block_size word) (λ bytes. Ok (Stop server writes (Hex bytes)))))

-- the places of `stop S K HOW` behind the server
abbrev pub stop_behind : ServerId → List (List ℕ) → Result Line BadWhy
stop_behind server [] = Err Count
stop_behind server (after ∷ []) = Err Count
stop_behind server (after ∷ how ∷ args) = then_read (how_name how) (λ name. how_said server after name args)

-- `stop S K HOW`
abbrev pub stop_said : List (List ℕ) → Result Line BadWhy
stop_said [] = Err Count
stop_said (word ∷ args) = then_read (server_in word) (λ server. stop_behind server args)

-- `settle`
abbrev pub settle_said : List (List ℕ) → Result Line BadWhy
settle_said args = then_read (none_of args) (λ none. Ok Settle)

-- `window K`
abbrev pub window_said : List (List ℕ) → Result Said BadWhy
window_said args = then_read (one_of args) (λ word. then_read (number_in 1 limits.window word) (λ window. Ok (Window window)))

abbrev pub does : Result Line BadWhy → Result Said BadWhy
does said = then_read said (λ line. Ok (Does line))

-- the command of this name with these words
abbrev pub command_with : Command → List (List ℕ) → Result Said BadWhy
command_with (OnPacket command) args = does (packet_said command args)
command_with (OnPair command) args = does (pair_said command args)
command_with (OnNode command) args = does (node_said command args)
command_with Declares args = does (gone_said args)
command_with Moves args = does (view_said args)
command_with WritesBack args = does (write_back_said args)
command_with Stops args = does (stop_said args)
command_with Settles args = does (settle_said args)
command_with Windows args = window_said args

-- a call of this client
abbrev pub client_call : ClientId → List (List ℕ) → Result Said BadWhy
client_call client args = then_read (call_said args) (λ call. Ok (Does (Call client call)))

-- a command
abbrev pub command_said : ℕ → List ℕ → List (List ℕ) → Result Said BadWhy
command_said number word args = then_read (command_in number word) (λ command. command_with command args)

-- a client's call, or else a command
abbrev pub call_or_command : ℕ → Result ClientId BadWhy → List ℕ → List (List ℕ) → Result Said BadWhy
call_or_command number (Ok client) word args = client_call client args
call_or_command number (Err why) word args = command_said number word args

-- what the words of a line behind the first say
abbrev pub words_said : ℕ → List (List ℕ) → Result Said BadWhy
words_said number [] = Ok Nothing
words_said number (word ∷ args) = call_or_command number (client_in word) word args

-- a count of clients, or no first line
abbrev pub clients_of : Result ℕ BadWhy → Result Said BadWhy
clients_of (Ok count) = Ok (Clients count)
clients_of (Err why) = Err First

-- what the words of the first line say: `clients N`
abbrev pub first_said : List (List ℕ) → Result Said BadWhy
first_said [] = Err First
first_said (word ∷ []) = Err First
first_said (word ∷ count ∷ []) = if bytes_eq word (codes "clients") then clients_of (number_in 1 limits.clients count) else Err First
first_said (word ∷ count ∷ other ∷ more) = Err First
