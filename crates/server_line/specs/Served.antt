-- What the service of a line leaves, and how it ends.
use Rattle.std.specs.Prelude.{◌≡◌, ◌≤◌, ◌+◌, ℕ, [], List, Option, Some, None, IsTrue, drop}
use Rattle.cal_base.specs.Limits as limits
use Rattle.message.specs.declared.message.Message.{Message}
use Rattle.message.specs.declared.message.Message.TheVariants.{Acquire, Grant, Refuse, Change, Done, Flush, Flushed, Revoke, Release, Ask, Piece, Wait, Admit}
use Rattle.revocation.specs.Revokes.{revokes_of}
use Rattle.token_kind.specs.declared.block.Block.{Block}
use Rattle.token_kind.specs.declared.blocker.Blocker.{Blocker}
use Rattle.cluster_law.specs.Asking.{is_admit, is_flushed, is_wait, was_told}
use Rattle.cluster_law.specs.DiskRules.{ReadsNothing, would_read}
use Rattle.cluster_law.specs.Granting.{head}
use Rattle.cluster_law.specs.Lanes.{Act}
use Rattle.cluster_law.specs.Removing.{has_removed}
use Rattle.cluster_law.specs.ServerRules.{EachAct, Occasion, Rests}
use Rattle.cluster_law.specs.ServerState.{ServerState}
use Rattle.server_draft.specs.Acts.{acts_of}
use Rattle.server_draft.specs.Draft.{Follows, Grows, reached, told_or_waiting}
use Rattle.server_draft.specs.declared.draft.Draft.{Draft}
use Rattle.server_line.specs.Known.{known}
use Rattle.volume_names.specs.Named.{AreNamed}
use Rattle.server_line.specs.declared.stopping.ServeError.{ServeError}
use Rattle.server_line.specs.declared.stopping.ServeError.TheVariants.{OutOfMemory, Refused}

-- a message that answers a request, and grants nothing
abbrev pub IsAnswer : Message → Type 0
IsAnswer (Acquire number want) = ⊥
IsAnswer (Grant number items) = ⊥
IsAnswer (Refuse number free needed) = Unit {0}
IsAnswer (Change number call) = ⊥
IsAnswer (Done number reply) = Unit {0}
IsAnswer (Flush flush) = ⊥
IsAnswer (Flushed number) = ⊥
IsAnswer (Revoke revoke) = ⊥
IsAnswer (Release release) = ⊥
IsAnswer Ask = ⊥
IsAnswer (Piece piece) = ⊥
IsAnswer (Wait number least) = ⊥
IsAnswer Admit = ⊥

-- no Wait, Flushed or Admit was told beside those that were
pub record TellsNoMore (client : ℕ) (old new : List Act) : Type 0 where
  pub waits : was_told client is_wait new ≡ was_told client is_wait old
  pub flushed : was_told client is_flushed new ≡ was_told client is_flushed old
  pub admits : was_told client is_admit new ≡ was_told client is_admit old

-- acts are put behind others; clients stand with their reports as they did; what was asked back stays so; and
-- nothing is told but answers to requests and Revokes, and nothing removed
pub record Keeps (old new : Draft) : Type 0 where
  pub grows : Grows old.acts new.acts
  pub standing : record new.desk.collecting { table = old.desk.collecting.table } ≡ old.desk.collecting
  pub lower : (blockers : List Blocker) → revokes_of old.desk.asked blockers ≡ [] → revokes_of new.desk.asked blockers ≡ []
  pub told : (view client : ℕ) → TellsNoMore client (acts_of view old.acts) (acts_of view new.acts)
  pub removed : (view : ℕ) → has_removed (acts_of view new.acts) ≡ has_removed (acts_of view old.acts)

-- no act among some read anything
abbrev pub ReadNothing : ServerState → List Act → Type 0
ReadNothing start acts = EachAct start (λ server before act. ReadsNothing server act) acts

-- a draft goes on: it follows each server of the law that it followed, if that sees its own sectors and each name of
-- the volume stands for something; and where the key is another, nothing more is read
pub record Goes (Sees : ServerState → Type 0) (Other : Type 0) (old new : Draft) : Type 0 where
  pub keeps : Keeps old new
  pub names : AreNamed old.image → AreNamed new.image
  pub follows : (view : ℕ) (o : Occasion) (start : ServerState) → Sees start → AreNamed old.image → Follows view o start old → Follows view o start new
  pub unread : (view : ℕ) (o : Occasion) (start : ServerState) → Sees start → Other → AreNamed old.image → Follows view o start old → ReadNothing start (acts_of view old.acts) → ReadNothing start (acts_of view new.acts)

-- how many messages for one client come beside answers: at most a Revoke for each inode, where a head is blocked
abbrev pub revokes_for : Option Block → ℕ
revokes_for None = 0
revokes_for (Some block) = limits.inodes

-- what a client is told, and the requests that wait, grew together by so many at most: an answer takes the place of
-- its request
abbrev pub GrewBy : ℕ → Draft → Draft → Type 0
GrewBy most old new = (to : ℕ) → told_or_waiting to new ≤ told_or_waiting to old + most

-- the head of a line is served and gone, or blocked: then the first of what blocks it is named, and all is asked
pub record Serves (Sees : ServerState → Type 0) (Other : Type 0) (old new : Draft) (named : Option Block) : Type 0 where
  pub goes : Goes Sees Other old new
  pub few : GrewBy (revokes_for named) old new
  pub gone : named ≡ None → new.desk.requests ≡ drop 1 old.desk.requests
  pub rests : (view : ℕ) (o : Occasion) (start : ServerState) (block : Block) → named ≡ Some block → Sees start → AreNamed old.image → Follows view o start old → Rests (reached view start new) named

-- where a block can't be read, the request at the head would read one
abbrev pub WouldRead : ServeError → ServerState → Type 0
WouldRead OutOfMemory server = Unit {0}
WouldRead (Refused why) server = IsTrue (would_read server (head server))

-- and then nothing has changed
abbrev pub Stops : ServeError → Draft → Draft → Type 0
Stops OutOfMemory old new = Unit {0}
Stops (Refused why) old new = (new ≡ old) × WouldRead (Refused why) (known new [])
