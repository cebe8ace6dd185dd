-- What a judge keeps of the lines so far, and what it says of the next.
use Rattle.std.specs.Prelude.{◌≡◌, ◌<◌, ℕ, false, List, ◌∷◌, Some, None, length, slice_index_or}
use Rattle.cal_base.specs.Limits as limits
use Rattle.cal_base.specs.declared.identity.ClientId.{ClientId}
use Rattle.tree_law.specs.Tree.{Tree}
use Rattle.tree_law.specs.Legal.{tree_of}
use Rattle.tree_law.specs.declared.entry.Entry.{Entry}
use Rattle.history_check.specs.Lines.{answered, entered, last_number, lines_of, started}
use Rattle.history_check.specs.Fits.{FitTo, Goes, IsAnswered}
use Rattle.history_check.specs.declared.standing.Progress.{Progress}
use Rattle.history_check.specs.declared.standing.Progress.TheVariants.{Answered, Entered, Started}
use Rattle.history_check.specs.declared.standing.Standing.{Standing}
use Rattle.history_check.specs.declared.told.Told.{Told}

-- a judge: the tree of the history so far, and where the last call of each client stands
pub record JudgeValue : Type 0 where
  pub tree : Tree
  pub standings : List Standing

-- the standing of a client before its first call
abbrev pub no_call : Standing
no_call = record { number = 0; progress = Answered }

-- where a client's last call stands
abbrev pub standing_of : JudgeValue → ClientId → Standing
standing_of judge client = slice_index_or judge.standings client.0 no_call

-- the lines tell that a call is so far
abbrev pub IsSoFar : Progress → ClientId → ℕ → List Told → Type 0
IsSoFar Answered client number earlier = IsAnswered client number earlier
IsSoFar (Started call) client number earlier = (started (lines_of client number earlier) ≡ Some call) × (entered (lines_of client number earlier) ≡ None)
IsSoFar (Entered text) client number earlier = (entered (lines_of client number earlier) ≡ Some text) × (answered (lines_of client number earlier) ≡ false)

-- a client's last call stands as the lines tell
pub record StandsAt (standing : Standing) (client : ClientId) (earlier : List Told) : Type 0 where
  pub number_is : standing.number ≡ last_number client earlier
  pub progress_is : IsSoFar standing.progress client standing.number earlier

-- the judge keeps what the lines so far and their history tell
pub record Stands (judge : JudgeValue) (earlier : List Told) (history : List Entry) : Type 0 where
  pub tree_is : judge.tree ≡ tree_of history
  pub count : length judge.standings ≡ limits.clients
  pub clients : (client : ClientId) → client.0 < limits.clients → StandsAt (standing_of judge client) client earlier

-- lines that fit go on with this one, and the judge then keeps what they tell
pub record GoesOn (judge : JudgeValue) (earlier : List Told) (before : List Entry) (told : Told) : Type 0 where
  pub history : List Entry
  pub goes : Goes earlier before told history
  pub stands : Stands judge (told ∷ earlier) history

-- a judge takes a line: whatever lines it has taken so far, they go on with this one
pub record Takes (old : JudgeValue) (told : Told) (new : JudgeValue) : Type 0 where
  pub takes : (earlier : List Told) (before : List Entry) → Stands old earlier before → FitTo earlier before → GoesOn new earlier before told

-- a judge refuses a line: whatever lines it has taken so far, they don't go on with this one
pub record Refuses (judge : JudgeValue) (told : Told) : Type 0 where
  pub refuses : (earlier : List Told) (before history : List Entry) → Stands judge earlier before → FitTo earlier before → ¬ (Goes earlier before told history)
