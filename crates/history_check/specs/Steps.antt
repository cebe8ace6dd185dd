-- What a judge does with a line, by what it keeps.
use Rattle.std.specs.Prelude.{◌≡◌, ◌≢◌, ◌+◌, ◌<◌, ℕ, List, Option, Some, None, slice_set}
use Rattle.cal_base.specs.Limits as limits
use Rattle.cal_base.specs.declared.identity.ClientId.{ClientId}
use Rattle.cal_base.specs.declared.identity.Ino.{Ino}
use Rattle.tree_law.specs.Tree.{Tree}
use Rattle.tree_law.specs.Legal.{IsAllowed, IsNextCall, Makes}
use Rattle.tree_law.specs.After.{after_call}
use Rattle.tree_law.specs.declared.call.Call.{Call}
use Rattle.tree_law.specs.declared.entry.Entry.{Entry}
use Rattle.tree_law.specs.declared.entry.Entry.TheVariants.{Call as Called, Flush, Purge}
use Rattle.tree_law.specs.declared.reply.Reply.{Reply}
use Rattle.tree_law.specs.declared.reply.Reply.TheVariants.{Refused}
use Rattle.tree_law.specs.declared.reply.Why.TheVariants.{NoInode, NoSpace}
use Rattle.reply_text.specs.Text.{reply_text}
use Rattle.history_check.specs.Judging.{JudgeValue, standing_of}
use Rattle.history_check.specs.declared.standing.Progress.{Progress}
use Rattle.history_check.specs.declared.standing.Progress.TheVariants.{Answered, Entered, Started}
use Rattle.history_check.specs.declared.standing.Standing.{Standing}

-- the client may start this call: its last is answered, and this is the next
pub record CanStart (standing : Standing) (number : ℕ) : Type 0 where
  pub answered : standing.progress ≡ Answered
  pub number_is : number ≡ standing.number + 1

-- this call may be answered so: it was carried out with this reply
pub record CanAnswer (standing : Standing) (number : ℕ) (text : List ℕ) : Type 0 where
  pub number_is : standing.number ≡ number
  pub carried_out : standing.progress ≡ Entered text

-- a reply with this text that the tree allows to the call
pub record IsReading (tree : Tree) (client : ClientId) (call : Call) (text : List ℕ) (reply : Reply) : Type 0 where
  pub text_is : reply_text reply ≡ text
  pub allowed : IsAllowed tree client call reply

-- no reply with this text is allowed
abbrev pub HasNoReading : Tree → ClientId → Call → List ℕ → Type 0
HasNoReading tree client call text = (reply : Reply) → ¬ (IsReading tree client call text reply)

-- the reply that was found with this text, or none where there is none
abbrev pub Reads : Tree → ClientId → Call → List ℕ → Option Reply → Type 0
Reads tree client call text (Some reply) = IsReading tree client call text reply
Reads tree client call text None = HasNoReading tree client call text

-- so many blocks are needed, fewer are free, and the reply that tells it has this text
pub record IsWantOfBlocks (needed : ℕ) (text : List ℕ) (reply : Reply) : Type 0 where
  pub free : ℕ
  pub fewer : free < needed
  pub reply_is : reply ≡ Refused (NoSpace free needed)
  pub text_is : reply_text reply ≡ text

-- the same of what was found; where nothing was, no such reply has this text
abbrev pub ReadsBlocks : ℕ → List ℕ → Option Reply → Type 0
ReadsBlocks needed text (Some reply) = IsWantOfBlocks needed text reply
ReadsBlocks needed text None = (free : ℕ) → free < needed → reply_text (Refused (NoSpace free needed)) ≢ text

-- an inode is wanting, which is told so
pub record IsWantOfInode (tree : Tree) (call : Call) (text : List ℕ) : Type 0 where
  pub makes : Makes tree call
  pub text_is : reply_text (Refused NoInode) ≡ text

-- a reply with this text with which the tree allows the call next
pub record CanEnter (tree : Tree) (client : ClientId) (call : Call) (new : Option Ino) (text : List ℕ) (reply : Reply) : Type 0 where
  pub text_is : reply_text reply ≡ text
  pub next : IsNextCall tree client call reply new

-- the tree allows the call next with no reply that has this text
abbrev pub CannotCarryOut : Tree → ClientId → Call → Option Ino → List ℕ → Type 0
CannotCarryOut tree client call new text = (reply : Reply) → ¬ (CanEnter tree client call new text reply)

-- a judge with another standing of a client; with another tree
abbrev pub with_standing : JudgeValue → ClientId → Standing → JudgeValue
with_standing judge client standing = record judge { standings = slice_set judge.standings client.0 standing }

abbrev pub with_tree : JudgeValue → Tree → JudgeValue
with_tree judge tree = record judge { tree = tree }

-- the call is carried out: the tree is that after it, and the call has this reply
pub record CarriesOut (old : Tree) (client : ClientId) (number : ℕ) (call : Call) (new_ino : Option Ino) (text : List ℕ) (new : Tree) (standing : Standing) : Type 0 where
  pub reply : Reply
  pub can : CanEnter old client call new_ino text reply
  pub tree_is : new ≡ after_call old client call reply new_ino
  pub standing_is : standing ≡ record { number = number; progress = Entered text }

-- the last call is carried out
pub record Enters (old : Tree) (old_standing : Standing) (client : ClientId) (number : ℕ) (new_ino : Option Ino) (text : List ℕ) (new : Tree) (standing : Standing) : Type 0 where
  pub call : Call
  pub was : old_standing ≡ record { number = number; progress = Started call }
  pub carries_out : CarriesOut old client number call new_ino text new standing

-- it can't be: it isn't this one, wasn't started or has an entry, or no reply with this text is allowed
pub record CannotEnter (tree : Tree) (standing : Standing) (client : ClientId) (number : ℕ) (new_ino : Option Ino) (text : List ℕ) : Type 0 where
  pub cannot : (call : Call) → standing ≡ record { number = number; progress = Started call } → CannotCarryOut tree client call new_ino text

-- a client of the 16
abbrev pub IsClient : ClientId → Type 0
IsClient client = client.0 < limits.clients

-- a judge takes an entry of a client's last call
pub record EntersIn (old : JudgeValue) (client : ClientId) (number : ℕ) (new_ino : Option Ino) (text : List ℕ) (new : JudgeValue) : Type 0 where
  pub client_is : IsClient client
  pub standing : Standing
  pub enters : Enters old.tree (standing_of old client) client number new_ino text new.tree standing
  pub new_is : new ≡ record { tree = new.tree; standings = slice_set old.standings client.0 standing }

-- the call of an entry, as it stands before it is carried out
abbrev pub as_started : Entry → Progress
as_started (Called client number call reply new) = Started call
as_started (Flush client ino) = Answered
as_started (Purge client) = Answered
