-- What printing comes to.
use Rattle.std.specs.Prelude.{◌≡◌, ◌≤◌, ◌∷◌, ◌++◌, [], ℕ, List, Option, Result, Ok, Err}
use Rattle.std.specs.Io.KnownBytes.{append_known}
use Rattle.cal_base.specs.Faults.{Rose}
use Rattle.cal_base.specs.Sink.{TakesPrefix}
use Rattle.run_status.specs.declared.printout.PrintError.{PrintError}
use Rattle.run_status.specs.declared.printout.PrintError.TheVariants.{WriteFault, OutOfMemory}

-- a line with its line feed
abbrev pub line : List ℕ → List ℕ
line text = text ++ 10 ∷ []

-- what a sink holds, and how often it has failed
pub record Held : Type 0 where
  pub held : Option (List ℕ)
  pub faults : ℕ

-- the text was printed; or the sink failed in it; or memory ran out before it
abbrev pub Prints : Held → List ℕ → Result (Unit {0}) PrintError → Held → Type 0
Prints old text (Ok done) new = (new.held ≡ append_known old.held text) × (old.faults ≤ new.faults)
Prints old text (Err WriteFault) new = TakesPrefix old.held text new.held × Rose old.faults new.faults
Prints old text (Err OutOfMemory) new = (new.held ≡ old.held) × (old.faults ≤ new.faults)
