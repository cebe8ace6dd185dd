-- What a word is read as by itself: a number up to a limit, a node, bytes in hexadecimal.
use Rattle.std.specs.Prelude.{ℕ, ◌%◌, ◌==◌, ◌&&◌, Bool, List, length, if◌then◌else◌, Result, Ok, codes, bytes_eq}
use Rattle.std.specs.List.{list_all}
use Rattle.cal_base.specs.declared.identity.NodeId.{NodeId}
use Rattle.cal_base.specs.declared.identity.NodeId.TheVariants.{Client, Server}
use Rattle.cal_base.specs.declared.identity.ServerId.TheVariants.{A, B}
use Rattle.script.specs.Numbers.{number_in, is_hex_digit, hex_bytes}
use Rattle.line_words.specs.Outcome.{outside, then_read, in_form}
use Rattle.line_words.specs.Places.{client_of}
use Rattle.line_words.specs.declared.read_error.OutOfForm.{OutOfForm}

-- a number up to a limit
abbrev pub number_to : ℕ → List ℕ → Result ℕ OutOfForm
number_to most word = in_form (number_in 0 most word)

-- a client, or `A` or `B`
abbrev pub node_of : List ℕ → Result NodeId OutOfForm
node_of word =
    if bytes_eq word (codes "A") then Ok (Server A)
    else if bytes_eq word (codes "B") then Ok (Server B)
    else then_read (client_of word) (λ client. Ok (Client client))

-- two hexadecimal digits for each byte
abbrev pub is_hex : List ℕ → Bool
is_hex word = list_all is_hex_digit word && (length word % 2 == 0)

-- the bytes that a word of hexadecimal digits writes
abbrev pub hex_of : List ℕ → Result (List ℕ) OutOfForm
hex_of word = if is_hex word then Ok (hex_bytes word) else outside
