-- What a reader answers.
use Rattle.std.specs.Prelude.{◌≡◌, Result, Ok, Err, ⊤}
use Rattle.line_words.specs.declared.read_error.ReadWordsError.{ReadWordsError}
use Rattle.line_words.specs.declared.read_error.ReadWordsError.TheVariants.{Form, OutOfMemory}

-- this value, unless memory ran out
abbrev pub Gives : {T : Type 0} → T → Result T ReadWordsError → Type 0
Gives value (Ok other) = other ≡ value
Gives value (Err Form) = ⊥
Gives value (Err OutOfMemory) = ⊤
