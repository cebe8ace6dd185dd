-- How a call and a line are written, word by word, and which values have words.
use Rattle.std.specs.Prelude.{◌-◌, ℕ, ◌≤◌, List, [], ◌∷◌, length, All, codes, decimal, ⊤}
use Rattle.cal_base.specs.Limits as limits
use Rattle.cal_base.specs.declared.identity.ClientId.{ClientId}
use Rattle.cal_base.specs.declared.identity.ServerId.{ServerId}
use Rattle.cal_base.specs.declared.identity.ServerId.TheVariants.{A, B}
use Rattle.cal_base.specs.declared.identity.NodeId.{NodeId}
use Rattle.cal_base.specs.declared.identity.NodeId.TheVariants.{Client, Server}
pub use Rattle.reply_text.specs.Text.{hex_digit, hex_text}
use Rattle.tree_law.specs.Path.{IsPath, path_text}
use Rattle.tree_law.specs.declared.call.Call.{Call}
use Rattle.tree_law.specs.declared.call.Call.TheVariants.{Create, Mkdir, Unlink, Rmdir, Rename, Open, Close, Read, Write, Truncate, Stat, Readdir, Fsync}
use Rattle.tree_law.specs.declared.mode.Mode.{Mode}
use Rattle.tree_law.specs.declared.mode.Mode.TheVariants.{R, W, Rw}
use Rattle.script.specs.declared.script.How.{How}
use Rattle.script.specs.declared.script.How.TheVariants.{Clean, Fill, Hex}
use Rattle.script.specs.declared.script.Line.{Line}
use Rattle.script.specs.declared.script.Line.TheVariants.{Call as Calls, Deliver, Drop, Pass, Cut, Mend, Tick, Crash, Gone, View, WriteBack, Stop, Settle}
use Rattle.script.specs.declared.script.Said.{Said}
use Rattle.script.specs.declared.script.Said.TheVariants.{Nothing, Clients, Window, Line as Does}

abbrev pub client_word : ClientId → List ℕ
client_word client = 99 ∷ decimal client.0

abbrev pub server_word : ServerId → List ℕ
server_word A = codes "A"
server_word B = codes "B"

abbrev pub node_word : NodeId → List ℕ
node_word (Client client) = client_word client
node_word (Server server) = server_word server

abbrev pub mode_word : Mode → List ℕ
mode_word R = codes "r"
mode_word W = codes "w"
mode_word Rw = codes "rw"

-- the word of a call
abbrev pub command_of : Call → List ℕ
command_of (Create path) = codes "create"
command_of (Mkdir path) = codes "mkdir"
command_of (Unlink path) = codes "unlink"
command_of (Rmdir path) = codes "rmdir"
command_of (Rename from to) = codes "rename"
command_of (Open path mode) = codes "open"
command_of (Close fd) = codes "close"
command_of (Read fd offset count) = codes "read"
command_of (Write fd offset bytes) = codes "write"
command_of (Truncate fd size) = codes "truncate"
command_of (Stat path) = codes "stat"
command_of (Readdir path) = codes "readdir"
command_of (Fsync fd) = codes "fsync"

-- the words of a call's places
abbrev pub places_of : Call → List (List ℕ)
places_of (Create path) = path_text path ∷ []
places_of (Mkdir path) = path_text path ∷ []
places_of (Unlink path) = path_text path ∷ []
places_of (Rmdir path) = path_text path ∷ []
places_of (Rename from to) = path_text from ∷ path_text to ∷ []
places_of (Open path mode) = path_text path ∷ mode_word mode ∷ []
places_of (Close fd) = decimal fd ∷ []
places_of (Read fd offset count) = decimal fd ∷ decimal offset ∷ decimal count ∷ []
places_of (Write fd offset bytes) = decimal fd ∷ decimal offset ∷ hex_text bytes ∷ []
places_of (Truncate fd size) = decimal fd ∷ decimal size ∷ []
places_of (Stat path) = path_text path ∷ []
places_of (Readdir path) = path_text path ∷ []
places_of (Fsync fd) = decimal fd ∷ []

-- the words of a call
abbrev pub call_words : Call → List (List ℕ)
call_words call = command_of call ∷ places_of call

abbrev pub how_words : How → List (List ℕ)
how_words Clean = codes "clean" ∷ []
how_words (Fill byte) = codes "fill" ∷ hex_text (byte ∷ []) ∷ []
how_words (Hex bytes) = codes "hex" ∷ hex_text bytes ∷ []

-- the words of a line
abbrev pub line_words : Line → List (List ℕ)
line_words (Calls client call) = client_word client ∷ call_words call
line_words (Deliver packet) = codes "deliver" ∷ decimal packet ∷ []
line_words (Drop packet) = codes "drop" ∷ decimal packet ∷ []
line_words (Pass from to) = codes "pass" ∷ node_word from ∷ node_word to ∷ []
line_words (Cut from to) = codes "cut" ∷ node_word from ∷ node_word to ∷ []
line_words (Mend from to) = codes "mend" ∷ node_word from ∷ node_word to ∷ []
line_words (Tick node) = codes "tick" ∷ node_word node ∷ []
line_words (Crash node) = codes "crash" ∷ node_word node ∷ []
line_words (Gone client) = codes "gone" ∷ client_word client ∷ []
line_words (View server) = codes "view" ∷ server_word server ∷ []
line_words (WriteBack client fd) = codes "writeback" ∷ client_word client ∷ decimal fd ∷ []
line_words (Stop server after how) = codes "stop" ∷ server_word server ∷ decimal after ∷ how_words how
line_words Settle = codes "settle" ∷ []

-- a number of 64 bits
abbrev pub IsWide : ℕ → Type 0
IsWide number = number ≤ 18446744073709551615

-- 1 to so many bytes
pub record IsBytes (most : ℕ) (bytes : List ℕ) : Type 0 where
  pub some : 1 ≤ length bytes
  pub few : length bytes ≤ most
  pub each : All (λ byte. byte ≤ 255) bytes

-- a client of a cluster
abbrev pub IsClient : ClientId → Type 0
IsClient client = client.0 ≤ limits.clients - 1

abbrev pub IsNode : NodeId → Type 0
IsNode (Client client) = IsClient client
IsNode (Server server) = ⊤

-- a call that a script can spell
abbrev pub IsCall : Call → Type 0
IsCall (Create path) = IsPath path
IsCall (Mkdir path) = IsPath path
IsCall (Unlink path) = IsPath path
IsCall (Rmdir path) = IsPath path
IsCall (Rename from to) = IsPath from × IsPath to
IsCall (Open path mode) = IsPath path
IsCall (Close fd) = fd ≤ 255
IsCall (Read fd offset count) = (fd ≤ 255) × IsWide offset × (count ≤ limits.file_size)
IsCall (Write fd offset bytes) = (fd ≤ 255) × IsWide offset × IsBytes limits.write_size bytes
IsCall (Truncate fd size) = (fd ≤ 255) × IsWide size
IsCall (Stat path) = IsPath path
IsCall (Readdir path) = IsPath path
IsCall (Fsync fd) = fd ≤ 255

abbrev pub IsHow : How → Type 0
IsHow Clean = ⊤
IsHow (Fill byte) = byte ≤ 255
IsHow (Hex bytes) = IsBytes limits.block_size bytes

-- a line that a script can spell
abbrev pub IsLine : Line → Type 0
IsLine (Calls client call) = IsClient client × IsCall call
IsLine (Deliver packet) = IsWide packet
IsLine (Drop packet) = IsWide packet
IsLine (Pass from to) = IsNode from × IsNode to
IsLine (Cut from to) = IsNode from × IsNode to
IsLine (Mend from to) = IsNode from × IsNode to
IsLine (Tick node) = IsNode node
IsLine (Crash node) = IsNode node
IsLine (Gone client) = IsClient client
IsLine (View server) = ⊤
IsLine (WriteBack client fd) = IsClient client × (fd ≤ 255)
IsLine (Stop server after how) = (after ≤ 4294967295) × IsHow how
IsLine Settle = ⊤

-- what a line says, where a script can spell it
abbrev pub IsSaid : Said → Type 0
IsSaid Nothing = ⊤
IsSaid (Clients count) = (1 ≤ count) × (count ≤ limits.clients)
IsSaid (Window window) = (1 ≤ window) × (window ≤ limits.window)
IsSaid (Does line) = IsLine line
