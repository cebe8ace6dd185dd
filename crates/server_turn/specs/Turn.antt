-- A step as a server has planned it.
use Rattle.std.specs.Prelude.{◌≢◌, ℕ, List, IsTrue}
use Rattle.cluster_law.specs.DiskRules.{would_read}
use Rattle.cluster_law.specs.Granting.{head}
use Rattle.cluster_law.specs.Removing.{due}
use Rattle.cluster_law.specs.ServerRules.{ActsWell, AnswersTaken, Collected, EachAct, EndsWell, Occasion, Removes}
use Rattle.cluster_law.specs.ServerState.{ServerState, after_acts}
use Rattle.server_draft.specs.Acts.{acts_of}
use Rattle.server_draft.specs.Draft.{Follows, reached}
use Rattle.server_draft.specs.declared.act.Act.{Act}
use Rattle.server_draft.specs.declared.draft.Draft.{Draft}
use Rattle.server_line.specs.Served.{ReadNothing}
use Rattle.server_line.specs.declared.stopping.ServeError.{ServeError}
use Rattle.server_line.specs.declared.stopping.ServeError.TheVariants.{OutOfMemory, Refused}
use Rattle.server_turn.specs.declared.planning.Planned.{Planned}
use Rattle.shared_disk.specs.Disk.{Disk}
use Rattle.volume_names.specs.Named.{AreNamed}

-- a step is planned but for the line of requests: the draft follows, what is owed for the message and in a tick is
-- done, reports are collected, and nothing was read
pub record IsCollected (view : ℕ) (o : Occasion) (start : ServerState) (draft : Draft) : Type 0 where
  pub follows : Follows view o start draft
  pub taken : AnswersTaken start (acts_of view draft.acts) o.took
  pub collected : Collected o (reached view start draft) (acts_of view draft.acts)
  pub removed : IsTrue o.tick → Removes start (reached view start draft) (acts_of view draft.acts) (due o.gone start)
  pub unread : ReadNothing start (acts_of view draft.acts)

-- a step is planned to its end, from a server of the law: the draft follows, all that is owed at the end is done,
-- and under another key nothing was read
pub record IsPlanned (view : ℕ) (o : Occasion) (start : ServerState) (disk : Disk) (planned : Planned) : Type 0 where
  pub follows : Follows view o start planned.draft
  pub ends : EndsWell o start (acts_of view planned.draft.acts) planned.head
  pub named : AreNamed planned.draft.image
  pub unread : disk.key ≢ view → ReadNothing start (acts_of view planned.draft.acts)

-- a step was planned up to a block that can't be read: its acts are as the law asks, and the head would read one
pub record IsRefused (view : ℕ) (o : Occasion) (start : ServerState) : Type 0 where
  pub acts : List Act
  pub well : EachAct start (ActsWell o start) (acts_of view acts)
  pub reads : IsTrue (would_read (after_acts start (acts_of view acts)) (head (after_acts start (acts_of view acts))))

abbrev pub MayBeRefused : ServeError → ℕ → Occasion → ServerState → Type 0
MayBeRefused OutOfMemory view o start = Unit {0}
MayBeRefused (Refused why) view o start = IsRefused view o start
