-- Definitions that give a value or tell that words are outside their form, joined one after the other,
-- and what the code answers.
use Rattle.std.specs.Prelude.{◌≡◌, Result, Ok, Err, ⊤}
use Rattle.script.specs.declared.bad_line.BadWhy.{BadWhy}
use Rattle.line_words.specs.declared.read_error.OutOfForm.{OutOfForm}
use Rattle.line_words.specs.declared.read_error.ReadWordsError.{ReadWordsError}
use Rattle.line_words.specs.declared.read_error.ReadWordsError.TheVariants.{Form, OutOfMemory}

-- no value: the words are outside their form
abbrev pub outside : {T : Type 0} → Result T OutOfForm
outside = Err (record {})

-- with a value what follows of it
abbrev pub then_read : {T U : Type 0} → Result T OutOfForm → (T → Result U OutOfForm) → Result U OutOfForm
then_read (Ok value) next = next value
then_read (Err form) next = Err form

-- a value of a script's grammar, or outside the form, whatever the reason
abbrev pub in_form : {T : Type 0} → Result T BadWhy → Result T OutOfForm
in_form (Ok value) = Ok value
in_form (Err why) = outside

-- the answer is what the definition says, unless memory ran out
abbrev pub Answers : {T : Type 0} → Result T OutOfForm → Result T ReadWordsError → Type 0
Answers said (Ok value) = said ≡ Ok value
Answers said (Err Form) = said ≡ outside
Answers said (Err OutOfMemory) = ⊤
