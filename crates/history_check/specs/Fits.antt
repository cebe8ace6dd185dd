-- Lines that fit: they tell of a legal history, in which each call is carried out once. Lines and
-- histories stand newest first.
use Rattle.std.specs.Prelude.{◌≡◌, ◌⊎◌, ◌+◌, ◌<◌, ℕ, true, false, List, [], ◌∷◌, Option, Some, None}
use Rattle.cal_base.specs.Limits as limits
use Rattle.cal_base.specs.declared.identity.ClientId.{ClientId}
use Rattle.cal_base.specs.declared.identity.Ino.{Ino}
use Rattle.tree_law.specs.Legal.{IsNext, tree_of}
use Rattle.tree_law.specs.declared.call.Call.{Call}
use Rattle.tree_law.specs.declared.entry.Entry.{Entry}
use Rattle.tree_law.specs.declared.entry.Entry.TheVariants.{Call as Called, Flush, Purge}
use Rattle.tree_law.specs.declared.reply.Reply.{Reply}
use Rattle.reply_text.specs.Text.{reply_text}
use Rattle.history_check.specs.Lines.{answered, entered, last_number, lines_of, started}
use Rattle.history_check.specs.declared.told.Told.{Told}
use Rattle.history_check.specs.declared.told.Told.TheVariants.{Answers, Enters, Flushes, Purges, Starts}

-- a call was answered; there is no call 0, and nothing is owed for it
abbrev pub IsAnswered : ClientId → ℕ → List Told → Type 0
IsAnswered client number lines = (number ≡ 0) ⊎ (answered (lines_of client number lines) ≡ true)

-- a start is of one of the 16 clients, has the number after that client's last, and the last is answered
pub record Begins (client : ClientId) (number : ℕ) (earlier : List Told) : Type 0 where
  pub client_is : client.0 < limits.clients
  pub number_is : number ≡ last_number client earlier + 1
  pub last_answered : IsAnswered client (last_number client earlier) earlier

-- an entry of a call is of a call that was started and has no entry yet; its reply is one with that
-- text that the tree allows next
pub record IsCarriedOut (client : ClientId) (number : ℕ) (new : Option Ino) (text : List ℕ) (earlier : List Told) (before history : List Entry) : Type 0 where
  pub call : Call
  pub reply : Reply
  pub call_is : started (lines_of client number earlier) ≡ Some call
  pub first : entered (lines_of client number earlier) ≡ None
  pub text_is : reply_text reply ≡ text
  pub allowed : IsNext (tree_of before) (Called client number call reply new)
  pub history_is : history ≡ Called client number call reply new ∷ before

-- an answer is of a call that has an entry with that reply, and has no answer yet
pub record Ends (client : ClientId) (number : ℕ) (text : List ℕ) (earlier : List Told) : Type 0 where
  pub entry_is : entered (lines_of client number earlier) ≡ Some text
  pub first : answered (lines_of client number earlier) ≡ false

-- what goes on: lines that fit so far, with the history that they tell, and the next line with the
-- history then. A flush and a purge go on as the tree allows next
abbrev pub Goes : List Told → List Entry → Told → List Entry → Type 0
Goes earlier before (Starts client number call) history = Begins client number earlier × (history ≡ before)
Goes earlier before (Enters client number new text) history = IsCarriedOut client number new text earlier before history
Goes earlier before (Flushes client ino) history = IsNext (tree_of before) (Flush client ino) × (history ≡ Flush client ino ∷ before)
Goes earlier before (Purges client) history = IsNext (tree_of before) (Purge client) × (history ≡ Purge client ∷ before)
Goes earlier before (Answers client number text) history = Ends client number text earlier × (history ≡ before)

-- lines that fit, with the history that they tell
abbrev pub FitTo : List Told → List Entry → Type 0
FitTo [] history = history ≡ []
FitTo (told ∷ earlier) history = (before : List Entry) × FitTo earlier before × Goes earlier before told history
