-- The call of a client, from the words behind the client.
use Rattle.std.specs.Prelude.{ℕ, List, [], ◌∷◌, replicate, if◌then◌else◌, Result, Ok, Err, codes, bytes_eq}
use Rattle.cal_base.specs.Limits as limits
use Rattle.tree_law.specs.declared.call.Call.{Call}
use Rattle.tree_law.specs.declared.call.Call.TheVariants.{Create, Mkdir, Unlink, Rmdir, Rename, Open, Close, Read, Write, Truncate, Stat, Readdir, Fsync}
use Rattle.tree_law.specs.declared.mode.Mode.{Mode}
use Rattle.script.specs.Numbers.{number_in, hex_in, byte_of}
use Rattle.script.specs.Outcome.{then_read}
use Rattle.script.specs.Places.{path_in, mode_in}
use Rattle.script.specs.Words.{one_of, two_of, three_of, four_of}
use Rattle.script.specs.declared.bad_line.BadWhy.{BadWhy}
use Rattle.script.specs.declared.bad_line.BadWhy.TheVariants.{Word, Count}
use Rattle.script.specs.declared.call_name.CallName.{CallName}
use Rattle.script.specs.declared.call_name.CallName.TheVariants.{OnPath, OnFile, Renames, Opens, Reads, Writes, Fills, Truncates}
use Rattle.script.specs.declared.call_name.PathCall.{PathCall}
use Rattle.script.specs.declared.call_name.PathCall.TheVariants.{Creates, Makes, Unlinks, Removes, Stats, Lists}
use Rattle.script.specs.declared.call_name.FileCall.{FileCall}
use Rattle.script.specs.declared.call_name.FileCall.TheVariants.{Closes, Syncs}

-- the call on one path that a word names, or what follows
abbrev pub path_call_or : List ℕ → Result CallName BadWhy → Result CallName BadWhy
path_call_or word other =
    if bytes_eq word (codes "create") then Ok (OnPath Creates)
    else if bytes_eq word (codes "mkdir") then Ok (OnPath Makes)
    else if bytes_eq word (codes "unlink") then Ok (OnPath Unlinks)
    else if bytes_eq word (codes "rmdir") then Ok (OnPath Removes)
    else if bytes_eq word (codes "stat") then Ok (OnPath Stats)
    else if bytes_eq word (codes "readdir") then Ok (OnPath Lists)
    else other

-- any other call that a word names
abbrev pub other_call : List ℕ → Result CallName BadWhy
other_call word =
    if bytes_eq word (codes "rename") then Ok Renames
    else if bytes_eq word (codes "open") then Ok Opens
    else if bytes_eq word (codes "close") then Ok (OnFile Closes)
    else if bytes_eq word (codes "fsync") then Ok (OnFile Syncs)
    else if bytes_eq word (codes "read") then Ok Reads
    else if bytes_eq word (codes "write") then Ok Writes
    else if bytes_eq word (codes "fill") then Ok Fills
    else if bytes_eq word (codes "truncate") then Ok Truncates
    else Err Word

-- the call that a word names
abbrev pub call_name : List ℕ → Result CallName BadWhy
call_name word = path_call_or word (other_call word)

abbrev pub path_call : PathCall → List (List ℕ) → Call
path_call Creates path = Create path
path_call Makes path = Mkdir path
path_call Unlinks path = Unlink path
path_call Removes path = Rmdir path
path_call Stats path = Stat path
path_call Lists path = Readdir path

abbrev pub file_call : FileCall → ℕ → Call
file_call Closes fd = Close fd
file_call Syncs fd = Fsync fd

-- `create P`, `mkdir P`, `unlink P`, `rmdir P`, `stat P` or `readdir P`
abbrev pub path_call_said : PathCall → List (List ℕ) → Result Call BadWhy
path_call_said call args = then_read (one_of args) (λ word. then_read (path_in word) (λ path. Ok (path_call call path)))

-- `rename P Q`
abbrev pub rename_said : List (List ℕ) → Result Call BadWhy
rename_said args = then_read (two_of args) (λ places. then_read (path_in places.first) (λ from. then_read (path_in places.second) (λ to. Ok (Rename from to))))

-- the mode in the second place
abbrev pub second_mode : List (List ℕ) → Result Mode BadWhy
second_mode [] = Err Count
second_mode (path ∷ []) = Err Count
second_mode (path ∷ mode ∷ more) = mode_in mode

-- `open P M`
abbrev pub open_said : List (List ℕ) → Result Call BadWhy
open_said args = then_read (second_mode args) (λ mode. then_read (two_of args) (λ places. then_read (path_in places.first) (λ path. Ok (Open path mode))))

-- a descriptor
abbrev pub descriptor_in : List ℕ → Result ℕ BadWhy
descriptor_in word = number_in 0 255 word

-- any number
abbrev pub offset_in : List ℕ → Result ℕ BadWhy
offset_in word = number_in 0 18446744073709551615 word

-- `close F` or `fsync F`
abbrev pub file_call_said : FileCall → List (List ℕ) → Result Call BadWhy
file_call_said call args = then_read (one_of args) (λ word. then_read (descriptor_in word) (λ fd. Ok (file_call call fd)))

-- `read F O L`
abbrev pub read_said : List (List ℕ) → Result Call BadWhy
read_said args = then_read (three_of args) (λ places. then_read (descriptor_in places.first) (λ fd. then_read (offset_in places.second) (λ offset. then_read (number_in 0 limits.file_size places.third) (λ count. Ok (Read fd offset count)))))

-- `write F O HEX`
abbrev pub write_said : List (List ℕ) → Result Call BadWhy
write_said args = then_read (three_of args) (λ places. then_read (descriptor_in places.first) (λ fd. then_read (offset_in places.second) (λ offset. then_read (hex_in limits.write_size places.third) (λ bytes. Ok (Write fd offset bytes)))))

-- `fill F O L BB`: the call `write` with L times the byte BB
abbrev pub fill_said : List (List ℕ) → Result Call BadWhy
fill_said args = then_read (four_of args) (λ places. then_read (descriptor_in places.first) (λ fd. then_read (offset_in places.second) (λ offset. then_read (number_in 1 limits.write_size places.third) (λ count. then_read (byte_of places.fourth) (λ byte. Ok (Write fd offset (replicate count byte)))))))

-- `truncate F S`
abbrev pub truncate_said : List (List ℕ) → Result Call BadWhy
truncate_said args = then_read (two_of args) (λ places. then_read (descriptor_in places.first) (λ fd. then_read (offset_in places.second) (λ size. Ok (Truncate fd size))))

-- the call of this name with these words
abbrev pub call_with : CallName → List (List ℕ) → Result Call BadWhy
call_with (OnPath call) args = path_call_said call args
call_with (OnFile call) args = file_call_said call args
call_with Renames args = rename_said args
call_with Opens args = open_said args
call_with Reads args = read_said args
call_with Writes args = write_said args
call_with Fills args = fill_said args
call_with Truncates args = truncate_said args

-- a call: its name, and then the words of its places
abbrev pub call_said : List (List ℕ) → Result Call BadWhy
call_said [] = Err Count
call_said (name ∷ args) = then_read (call_name name) (λ call. call_with call args)
