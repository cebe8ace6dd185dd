-- What stands at all times of a client at its own values, and what may come to it.
use Rattle.std.specs.Prelude.{◌≡◌, ◌≤◌, ◌+◌, ◌∷◌, [], ℕ, false, true, All, List, Option, None, IfSome, length, map}
use Rattle.cal_base.specs.Limits.{inodes, write_size}
use Rattle.cal_base.specs.declared.identity.Ino.{Ino}
use Rattle.client_cache.specs.IsKnown.{IsKnown}
use Rattle.client_cache.specs.Known.{Known, first_known, inode_at, is_settled}
use Rattle.message.specs.Range.{IsMessage}
use Rattle.message.specs.declared.message.Message.{Message}
use Rattle.message.specs.declared.message.Message.TheVariants.{Grant, Revoke}
use Rattle.token_kind.specs.declared.grant_item.GrantItem.{GrantItem}
use Rattle.token_kind.specs.declared.revoke.Revoke.{Revoke as RevokeRecord}
use Rattle.tree_law.specs.Path.{IsPath}
use Rattle.tree_law.specs.declared.call.Call.{Call}
use Rattle.tree_law.specs.declared.call.Call.TheVariants.{Create, Mkdir, Unlink, Rmdir, Rename, Open, Close, Read, Write, Truncate, Stat, Readdir, Fsync}
use Rattle.tree_law.specs.declared.entry.Entry.{Entry}
use Rattle.cluster_law.specs.Asking.{is_request}
use Rattle.cluster_law.specs.ClientRules.{Answers}
use Rattle.cluster_law.specs.ClientState.{Turn, Idles, Starts, WritesBack, Takes, client_after}
use Rattle.cluster_law.specs.Owed.{owed, tale_of}
use Rattle.cluster_law.specs.declared.step.Answer.{Answer}
use Rattle.client_book.specs.Booked.{KeepsMarks, sight_of}
use Rattle.client_book.specs.Client.{ClientValue, hears_in, state_of}
use Rattle.client_book.specs.Memory.{Memory, item_in}

-- a call as its grammar spells it: with paths, and with 1 to 32,768 bytes to write
abbrev pub IsCall : Call → Type 0
IsCall (Create path) = IsPath path
IsCall (Mkdir path) = IsPath path
IsCall (Unlink path) = IsPath path
IsCall (Rmdir path) = IsPath path
IsCall (Rename path goal) = IsPath path × IsPath goal
IsCall (Open path mode) = IsPath path
IsCall (Close fd) = Unit {0}
IsCall (Read fd offset len) = Unit {0}
IsCall (Write fd offset bytes) = (1 ≤ length bytes) × (length bytes ≤ write_size)
IsCall (Truncate fd size) = Unit {0}
IsCall (Stat path) = IsPath path
IsCall (Readdir path) = IsPath path
IsCall (Fsync fd) = Unit {0}

-- what comes has a spelling
abbrev pub HasSpelling : Turn → Type 0
HasSpelling Idles = Unit {0}
HasSpelling (Starts call) = IsCall call
HasSpelling (WritesBack fd) = Unit {0}
HasSpelling (Takes message) = IsMessage message

-- nothing of a file is unflushed while a flush of it is under way
abbrev pub IsTidy : Known → Type 0
IsTidy known = (ino : Ino) → (inode_at known ino).file.unflushed ≡ true → is_settled known ino ≡ true

-- a Revoke that waits behind a flush is one that a message spells
abbrev pub IsRemembered : RevokeRecord → Type 0
IsRemembered revoke = IsMessage (Revoke revoke)

pub record IsSound (m : Memory) : Type 0 where
  pub known : IsKnown m.known
  pub tidy : IsTidy m.known
  pub remembered : All IsRemembered m.remembered

-- a request that is unanswered is that of the outstanding call, and has a spelling
pub record IsRequestOf (number : ℕ) (message : Message) : Type 0 where
  pub spelled : IsMessage message
  pub numbered : is_request number message ≡ true

-- an outstanding call has a number, from 1, and a spelling
pub record IsCalling (number : ℕ) (call : Call) : Type 0 where
  pub from_one : 1 ≤ number
  pub spelled : IsCall call

-- a client: its memory is sound, its outstanding call is spelled, and a request that is unanswered is of that call
pub record IsClient (v : ClientValue) : Type 0 where
  pub sound : IsSound v.memory
  pub call : IfSome v.call (IsCalling v.calls)
  pub request : IfSome v.request (IsRequestOf v.calls)
  pub asks : v.call ≡ None → v.request ≡ None

-- a call starts where none is outstanding
abbrev pub IsFree : ClientValue → Turn → Type 0
IsFree v (Starts call) = v.call ≡ None
IsFree v turn = Unit {0}

-- bytes that come with a Grant come where nothing is marked, as a server sends bytes only where nothing is held
unfoldable pub ComeClean : Known → List GrantItem → Type 0
ComeClean known [] = Unit {0}
ComeClean known (item ∷ items) = KeepsMarks (inode_at known item.ino) item.content × ComeClean (item_in known item) items

abbrev pub MayCome : ClientValue → Turn → Type 0
MayCome v (Takes (Grant number items)) = ComeClean v.memory.known items
MayCome v turn = Unit {0}

-- a step of a client keeps the law: the state after it, the messages that it makes, and the answer with its
-- entry are those of the law, by what the cache sees of the files before and after it heard what came
pub record KeepsLaw (client : ℕ) (old new : ClientValue) (turn : Turn) (messages : List Message) (answer : Option Answer) (entries : List Entry) : Type 0 where
  pub state : state_of new ≡ client_after (sight_of old.memory.known) (sight_of (hears_in old turn).memory.known) (state_of old) turn
  pub says : map tale_of messages ≡ owed (sight_of old.memory.known) (sight_of (hears_in old turn).memory.known) (state_of old) turn
  pub answers : Answers (sight_of old.memory.known) (sight_of (hears_in old turn).memory.known) client (state_of old) turn answer entries

-- the most messages of a step beside those of Revokes that waited: the flushes of all files, and a request
abbrev pub most_messages : ℕ
most_messages = inodes + 1

-- a client that has done nothing yet
abbrev pub first_memory : Memory
first_memory = record { known = first_known; remembered = [] }

abbrev pub first_value : ClientValue
first_value = record { moving = false; calls = 0; call = None; request = None; waits = false; memory = first_memory }
