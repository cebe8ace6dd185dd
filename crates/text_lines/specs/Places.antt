-- What a word has to be where an inode stands.
use Rattle.std.specs.Prelude.{ℕ, List, if◌then◌else◌, Option, Some, None, Result, Ok, codes, bytes_eq}
use Rattle.cal_base.specs.Limits as limits
use Rattle.cal_base.specs.declared.identity.Ino.{Ino}
use Rattle.script.specs.Numbers.{number_in}
use Rattle.line_words.specs.Outcome.{then_read, in_form}
use Rattle.line_words.specs.declared.read_error.OutOfForm.{OutOfForm}

-- an inode, from the least
abbrev pub ino_of : ℕ → List ℕ → Result Ino OutOfForm
ino_of least word = then_read (in_form (number_in least limits.last_inode word)) (λ number. Ok (record { 0 = number }))

-- an inode: 0 to 511
abbrev pub any_ino : List ℕ → Result Ino OutOfForm
any_ino word = ino_of 0 word

-- the inode that a call made: 1 to 511, or `-` for none
abbrev pub new_ino : List ℕ → Result (Option Ino) OutOfForm
new_ino word = if bytes_eq word (codes "-") then Ok None else then_read (ino_of 1 word) (λ ino. Ok (Some ino))
