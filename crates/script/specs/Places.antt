-- What a word has to be at a place of a line: a path, a client, a server, a node, a mode.
use Rattle.std.specs.Prelude.{ℕ, ◌-◌, ◌==◌, ◌&&◌, Bool, List, [], ◌∷◌, length, nat_le, if◌then◌else◌, Result, Ok, Err, codes, bytes_eq}
use Rattle.std.specs.List.{list_all, slice_split}
use Rattle.cal_base.specs.Limits as limits
use Rattle.cal_base.specs.declared.identity.ClientId.{ClientId}
use Rattle.cal_base.specs.declared.identity.ServerId.{ServerId}
use Rattle.cal_base.specs.declared.identity.ServerId.TheVariants.{A, B}
use Rattle.cal_base.specs.declared.identity.NodeId.{NodeId}
use Rattle.cal_base.specs.declared.identity.NodeId.TheVariants.{Client, Server}
use Rattle.tree_law.specs.NameTest.{is_name}
use Rattle.tree_law.specs.declared.mode.Mode.{Mode}
use Rattle.tree_law.specs.declared.mode.Mode.TheVariants.{R, W, Rw}
use Rattle.script.specs.Numbers.{number_in}
use Rattle.script.specs.declared.bad_line.BadWhy.{BadWhy}
use Rattle.script.specs.declared.bad_line.BadWhy.TheVariants.{Word, Path}

-- the names behind the first slash
abbrev pub names_in : List ℕ → List (List ℕ)
names_in [] = []
names_in (byte ∷ text) = slice_split (λ byte. byte == 47) (byte ∷ text)

-- at most 16 names
abbrev pub is_path : List (List ℕ) → Bool
is_path names = nat_le (length names) limits.path_names && list_all is_name names

-- `/`, or 1 to 16 names, each after a `/`
abbrev pub path_in : List ℕ → Result (List (List ℕ)) BadWhy
path_in [] = Err Path
path_in (byte ∷ text) = if (byte == 47) && is_path (names_in text) then Ok (names_in text) else Err Path

-- the client of a number, or an unknown word
abbrev pub client_of : Result ℕ BadWhy → Result ClientId BadWhy
client_of (Ok number) = Ok (record { 0 = number })
client_of (Err why) = Err Word

-- `c0` to `c15`
abbrev pub client_in : List ℕ → Result ClientId BadWhy
client_in [] = Err Word
client_in (byte ∷ number) = if byte == 99 then client_of (number_in 0 (limits.clients - 1) number) else Err Word

-- `A` or `B`
abbrev pub server_in : List ℕ → Result ServerId BadWhy
server_in word = if bytes_eq word (codes "A") then Ok A else if bytes_eq word (codes "B") then Ok B else Err Word

-- a server as a node
abbrev pub server_node : Result ServerId BadWhy → Result NodeId BadWhy
server_node (Ok server) = Ok (Server server)
server_node (Err why) = Err why

-- a client, or else a server
abbrev pub node_or : Result ClientId BadWhy → Result ServerId BadWhy → Result NodeId BadWhy
node_or (Ok client) server = Ok (Client client)
node_or (Err why) server = server_node server

-- `c0` to `c15`, `A` or `B`
abbrev pub node_in : List ℕ → Result NodeId BadWhy
node_in word = node_or (client_in word) (server_in word)

-- `r`, `w` or `rw`
abbrev pub mode_in : List ℕ → Result Mode BadWhy
mode_in word =
    if bytes_eq word (codes "r") then Ok R
    else if bytes_eq word (codes "w") then Ok W
    else if bytes_eq word (codes "rw") then Ok Rw
    else Err Word
