-- How a command ends with a text.
use Rattle.std.specs.Prelude.{◌≡◌, ◌⊎◌, ℕ, List, Result, Ok, Err}
use Rattle.run_status.specs.Code.{status_of}
use Rattle.run_status.specs.Printing.{Held, Prints}
use Rattle.run_status.specs.declared.printout.PrintError.{PrintError}
use Rattle.run_status.specs.declared.status.Status.{Status}
use Rattle.run_status.specs.declared.status.Status.TheVariants.{OutOfMemory}

-- the status of a command whose text was printed, or wasn't
abbrev pub status_of_print : Status → Result (Unit {0}) PrintError → Status
status_of_print status (Ok done) = status
status_of_print status (Err error) = status_of error

-- a command ends with a text
pub record Tells (before : Held) (text : List ℕ) (status result : Status) (now : Held) : Type 0 where
  pub printed : Result (Unit {0}) PrintError
  pub prints : Prints before text printed now
  pub result_is : result ≡ status_of_print status printed

-- or memory runs out before it is written
abbrev pub TellsOr : Held → List ℕ → Status → Status → Held → Type 0
TellsOr before text status result now = Tells before text status result now ⊎ ((result ≡ OutOfMemory) × (now.held ≡ before.held))
