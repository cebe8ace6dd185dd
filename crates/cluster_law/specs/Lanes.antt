-- The directions of sessions, and what a node does within a step.
use Rattle.std.specs.Prelude.{ℕ, Bool, true, false, ◌&&◌, nat_eq, List, Option}
use Rattle.cal_base.specs.declared.identity.Ino.{Ino}
use Rattle.message.specs.declared.message.Message.{Message}
use Rattle.token_kind.specs.declared.flush.Flush.{Flush}
use Rattle.tree_law.specs.declared.reply.Reply.{Reply}
use Rattle.tree_law.specs.declared.request.Request.{Request}
use Rattle.volume.specs.Volume.{Volume}
use Rattle.volume_edit.specs.declared.edit.Edit.{Edit}

-- towards the server, or towards the client
pub data Way : Type 0 where
  Up : Way
  Down : Way

-- one direction of the session of a client in a view
pub record Lane : Type 0 where
  pub client : ℕ
  pub view : ℕ
  pub way : Way

abbrev pub same_way : Way → Way → Bool
same_way Up Up = true
same_way Up Down = false
same_way Down Up = false
same_way Down Down = true

abbrev pub same_lane : Lane → Lane → Bool
same_lane a b = nat_eq a.client b.client && nat_eq a.view b.view && same_way a.way b.way

abbrev pub other_way : Way → Way
other_way Up = Down
other_way Down = Up

-- the other direction of a lane's session
abbrev pub back : Lane → Lane
back lane = record { client = lane.client; view = lane.view; way = other_way lane.way }

-- what a server makes final on the disk: the change of a request, with its reply and the inode that it
-- made; a client's flush; the purge of a client; the freeing of an orphan
pub data Deed : Type 0 where
  Changes : Request → Reply → Option Ino → Deed
  Flushes : ℕ → Flush → Deed
  Purges : ℕ → Deed
  Reaps : Ino → Deed

-- a commit: its deed, the blocks that it lays before, what it alters of the volume, and its homes
pub record Commit : Type 0 where
  pub deed : Deed
  pub lays : List (ℕ × List ℕ)
  pub edit : Edit
  pub homes : List (ℕ × List ℕ)

-- one thing that a node does within a step: a server that boots mounts a volume; a message is made for a lane;
-- a commit is planned; or the old request at the head of the line is dropped
pub data Act : Type 0 where
  Mounts : Volume → Act
  Tells : Lane → Message → Act
  Commits : Commit → Act
  Drops : Act
