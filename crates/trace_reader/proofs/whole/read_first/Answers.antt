use Rattle.std.proofs.Common.{◌≡◌, ℕ, Option, Some}
use Rattle.trace_reader.proofs.whole.read_first.Goals as goal

inside : (a b : ℕ × ℕ) → ◌≡◌ {A = Option (ℕ × ℕ)} (Some a) (Some b) → a ≡ b
inside a b e = cc

pub returns-in-Some-clause-again : goal.returns-in-Some-clause-again
returns-in-Some-clause-again c run is e = inside c.in-Some.run' run (c.in-Some.ensures.again run is e)
