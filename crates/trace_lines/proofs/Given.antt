-- From what the definition says of a text to what is answered.
use Rattle.std.proofs.Common.{◌≡◌, sym, ap, Result, Ok, Err, Some, None, IfOk}
use Rattle.line_words.specs.Outcome.{Answers}
use Rattle.line_words.specs.declared.read_error.OutOfForm.{OutOfForm}
use Rattle.line_words.specs.declared.read_error.ReadWordsError.{ReadWordsError}
use Rattle.line_words.specs.declared.read_error.ReadWordsError.TheVariants.{Form, OutOfMemory}
use Rattle.line_words.proofs.Ranges.{same_read, no_value}
use Rattle.trace_lines.specs.Reading.{Gives}

-- what the definition says is answered
pub given : {T : Type 0} (value : T) (said : Result T OutOfForm) (result : Result T ReadWordsError) → Answers said result → said ≡ Ok value → Gives value result
given value said (Ok other) is e = same_read other value said is e
given value said (Err Form) is e = no_value (record {}) value said is e
given value said (Err OutOfMemory) is e = tt

-- what is so of all that the definition says is so of what is answered
pub is_so : {T : Type 0} (P : T → Type 0) (said : Result T OutOfForm) (result : Result T ReadWordsError) → Answers said result → ((value : T) → said ≡ Ok value → P value) → IfOk result P
is_so P said (Ok value) is so = so value is
is_so P said (Err error) is so = tt

-- the value that was read is the one that the definition says
pub found : {T : Type 0} (value one : T) (said : Result T OutOfForm) → Ok one ≡ said → said ≡ Ok value → Some one ≡ Some value
found value one said is e = ap (λ v. Some v) (same_read one value said (sym is) e)

-- where nothing was read the definition says no value
pub missed : {T : Type 0} (value : T) (form : OutOfForm) (said : Result T OutOfForm) → Err form ≡ said → said ≡ Ok value → None ≡ Some value
missed value form said is e = absurd (no_value form value said (sym is) e)
