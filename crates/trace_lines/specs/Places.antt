-- What a word has to be at a place of a line: a number, an inode, an actor, a name out of a list.
use Rattle.std.specs.Prelude.{ℕ, List, if◌then◌else◌, Option, Some, None, Result, Ok, codes, bytes_eq}
use Rattle.cal_base.specs.Limits as limits
use Rattle.cal_base.specs.declared.identity.Ino.{Ino}
use Rattle.cal_base.specs.declared.identity.NodeId.{NodeId}
use Rattle.cal_base.specs.declared.identity.View.{View}
use Rattle.token_kind.specs.declared.«class».Class.{Class}
use Rattle.token_kind.specs.declared.«class».Class.TheVariants.{Names, Data, Attr, Open}
use Rattle.script.specs.Numbers.{number_in}
use Rattle.trace_text.specs.declared.runs.Cause.{Cause}
use Rattle.trace_text.specs.declared.runs.Cause.TheVariants.{NoSuch, NoPacket, Dead, Busy, Alive}
use Rattle.trace_text.specs.declared.runs.Settled.{Settled}
use Rattle.trace_text.specs.declared.runs.Settled.TheVariants.{Idle, Stuck, Spent}
use Rattle.line_words.specs.Outcome.{outside, then_read, in_form}
use Rattle.line_words.specs.Places.{number_of}
pub use Rattle.line_words.specs.Values.{number_to, node_of}
use Rattle.line_words.specs.declared.read_error.OutOfForm.{OutOfForm}

-- a number of 32 bits
abbrev pub number32_of : List ℕ → Result ℕ OutOfForm
number32_of word = number_to 4294967295 word

-- a descriptor, a number of 8 bits
abbrev pub descriptor_of : List ℕ → Result ℕ OutOfForm
descriptor_of word = number_to 255 word

-- a count of clients, 1 to 16
abbrev pub clients_of : List ℕ → Result ℕ OutOfForm
clients_of word = in_form (number_in 1 limits.clients word)

-- how many clients a server asks at a time, 1 to 8
abbrev pub window_of : List ℕ → Result ℕ OutOfForm
window_of word = in_form (number_in 1 limits.window word)

-- a view
abbrev pub view_of : List ℕ → Result View OutOfForm
view_of word = then_read (number_of word) (λ number. Ok (record { 0 = number }))

-- an inode
abbrev pub ino_of : List ℕ → Result Ino OutOfForm
ino_of word = then_read (number32_of word) (λ number. Ok (record { 0 = number }))

-- the inode that a call made, or a dash for none
abbrev pub new_of : List ℕ → Result (Option Ino) OutOfForm
new_of word = if bytes_eq word (codes "-") then Ok None else then_read (ino_of word) (λ ino. Ok (Some ino))

-- whose step it is: a node's, or one of the list of members
abbrev pub actor_of : List ℕ → Result (Option NodeId) OutOfForm
actor_of word = if bytes_eq word (codes "members") then Ok None else then_read (node_of word) (λ node. Ok (Some node))

-- the class of a hold
abbrev pub class_of : List ℕ → Result Class OutOfForm
class_of word =
    if bytes_eq word (codes "Names") then Ok Names
    else if bytes_eq word (codes "Data") then Ok Data
    else if bytes_eq word (codes "Attr") then Ok Attr
    else if bytes_eq word (codes "Open") then Ok Open
    else outside

-- why an event is refused
abbrev pub cause_of : List ℕ → Result Cause OutOfForm
cause_of word =
    if bytes_eq word (codes "NoSuch") then Ok NoSuch
    else if bytes_eq word (codes "NoPacket") then Ok NoPacket
    else if bytes_eq word (codes "Dead") then Ok Dead
    else if bytes_eq word (codes "Busy") then Ok Busy
    else if bytes_eq word (codes "Alive") then Ok Alive
    else outside

-- how a `settle` ends
abbrev pub settled_of : List ℕ → Result Settled OutOfForm
settled_of word =
    if bytes_eq word (codes "idle") then Ok Idle
    else if bytes_eq word (codes "stuck") then Ok Stuck
    else if bytes_eq word (codes "spent") then Ok Spent
    else outside
