-- What a reader of the code gives, against what reading gives.
use Rattle.std.specs.Prelude.{◌≡◌, ℕ, List, Result, Ok, Err}
use Rattle.message.specs.Reading.{Read}
use Rattle.message.specs.declared.read.DecodeError.{DecodeError}
use Rattle.message.specs.declared.read.DecodeError.TheVariants.{BadMessage, OutOfMemory as NoMemory}
use Rattle.message.specs.declared.message.Message.{Message}
use Rattle.message.specs.declared.stop.Stop.{Stop}
use Rattle.message.specs.declared.stop.Stop.TheVariants.{OutOfMemory, Outside}

-- A fault is the one that reading gives; want of memory says nothing.
abbrev pub Stopped : {A : Type 0} → Stop → Result A ℕ → Type 0
Stopped OutOfMemory read = Unit {0}
Stopped (Outside left) read = read ≡ Err left

-- What was read, with what is left then, is what reading gives.
abbrev pub Reads : {A : Type 0} → Result A Stop → List ℕ → Read A → Type 0
Reads (Ok value) rest read = read ≡ Ok (value, rest)
Reads (Err stop) rest read = Stopped stop read

-- the same of a value that is seen by a view
abbrev pub ReadsAs : {X A : Type 0} → (X → A) → Result X Stop → List ℕ → Read A → Type 0
ReadsAs view (Ok value) rest read = read ≡ Ok (view value, rest)
ReadsAs view (Err stop) rest read = Stopped stop read

-- What `decode` answers is the message that the bytes spell, or the place of the fault. Want of memory
-- says nothing.
abbrev pub Answers : Result Message DecodeError → Result Message ℕ → Type 0
Answers (Ok message) spelled = spelled ≡ Ok message
Answers (Err (BadMessage at)) spelled = spelled ≡ Err at
Answers (Err NoMemory) spelled = Unit {0}
