-- How far each call is in a text that fits.
use Rattle.std.specs.Prelude.{◌≡◌, ℕ, List, [], ◌∷◌, Option}
use Rattle.cal_base.specs.declared.identity.ClientId.{ClientId}
use Rattle.cal_base.specs.declared.identity.Ino.{Ino}
use Rattle.tree_law.specs.declared.call.Call.{Call}
use Rattle.tree_law.specs.declared.entry.Entry.{Entry}
use Rattle.tree_law.specs.declared.entry.Entry.TheVariants.{Call as Called}
use Rattle.tree_law.specs.declared.reply.Reply.{Reply}
use Rattle.reply_text.specs.Text.{reply_text}
use Rattle.history_check.specs.Lines.{entries_of, lines_of}
use Rattle.history_check.specs.declared.told.Told.{Told}
use Rattle.history_check.specs.declared.told.Told.TheVariants.{Answers, Enters, Starts}

-- how far a call is: not started; started; carried out; answered
pub data Turn : Type 0 where
  Unstarted : Turn
  Started : (call : Call) → Turn
  CarriedOut : (call : Call) (reply : Reply) (new : Option Ino) → Turn
  Answered : (call : Call) (reply : Reply) (new : Option Ino) → Turn

-- the lines that tell of a call that is so far: its start, then its entry, then its answer with the same
-- reply, each once
abbrev pub lines_in : ClientId → ℕ → Turn → List Told
lines_in client number Unstarted = []
lines_in client number (Started call) = Starts client number call ∷ []
lines_in client number (CarriedOut call reply new) = Enters client number new (reply_text reply) ∷ Starts client number call ∷ []
lines_in client number (Answered call reply new) = Answers client number (reply_text reply) ∷ Enters client number new (reply_text reply) ∷ Starts client number call ∷ []

-- its entries in the history: one as soon as it is carried out, of the call that was started, with the
-- reply that is answered
abbrev pub entries_in : ClientId → ℕ → Turn → List Entry
entries_in client number Unstarted = []
entries_in client number (Started call) = []
entries_in client number (CarriedOut call reply new) = Called client number call reply new ∷ []
entries_in client number (Answered call reply new) = Called client number call reply new ∷ []

-- a call is so far, by all lines of the text and all entries of the history
pub record InTurn (client : ClientId) (number : ℕ) (lines : List Told) (history : List Entry) : Type 0 where
  pub turn : Turn
  pub lines_are : lines_of client number lines ≡ lines_in client number turn
  pub entries_are : entries_of client number history ≡ entries_in client number turn
