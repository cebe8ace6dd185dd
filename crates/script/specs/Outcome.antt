-- Definitions that give a value or a reason, joined one after the other, and what the code answers.
use Rattle.std.specs.Prelude.{◌≡◌, Result, Ok, Err, ⊤}
use Rattle.script.specs.declared.bad_line.BadWhy.{BadWhy}
use Rattle.script.specs.declared.read_error.ReadLineError.{ReadLineError}
use Rattle.script.specs.declared.read_error.ReadLineError.TheVariants.{Bad, OutOfMemory}

-- with a value what follows of it, else the reason
abbrev pub then_read : {T U : Type 0} → Result T BadWhy → (T → Result U BadWhy) → Result U BadWhy
then_read (Ok value) next = next value
then_read (Err why) next = Err why

-- the answer is what the definition says, unless memory ran out
abbrev pub Answers : {T : Type 0} → Result T BadWhy → Result T ReadLineError → Type 0
Answers said (Ok value) = said ≡ Ok value
Answers said (Err (Bad why)) = said ≡ Err why
Answers said (Err OutOfMemory) = ⊤
