-- What a word has to be at a place of a line, a client or a number; and the words of a call.
use Rattle.std.specs.Prelude.{ℕ, ◌&&◌, not, Bool, false, List, [], ◌∷◌, length, nat_lt, if◌then◌else◌, Result, codes, bytes_eq}
use Rattle.std.specs.List.{list_all}
use Rattle.cal_base.specs.declared.identity.ClientId.{ClientId}
use Rattle.tree_law.specs.declared.call.Call.{Call}
use Rattle.script.specs.CallLine.{call_said}
use Rattle.script.specs.Numbers.{number_in}
use Rattle.script.specs.Places.{client_in}
use Rattle.line_words.specs.Outcome.{outside, in_form}
use Rattle.line_words.specs.declared.read_error.OutOfForm.{OutOfForm}

-- a client: `c0` to `c15`
abbrev pub client_of : List ℕ → Result ClientId OutOfForm
client_of word = in_form (client_in word)

-- a number of 64 bits
abbrev pub number_of : List ℕ → Result ℕ OutOfForm
number_of word = in_form (number_in 0 18446744073709551615 word)

-- no word is empty
abbrev pub are_whole : List (List ℕ) → Bool
are_whole words = list_all (λ word. nat_lt 0 (length word)) words

-- the first word is `fill`
abbrev pub is_fill : List (List ℕ) → Bool
is_fill [] = false
is_fill (word ∷ args) = bytes_eq word (codes "fill")

-- a call as a script has it behind its client, but for `fill`
abbrev pub call_of : List (List ℕ) → Result Call OutOfForm
call_of words = if are_whole words && not (is_fill words) then in_form (call_said words) else outside
