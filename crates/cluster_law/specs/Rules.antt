-- The rules that each step of a trace keeps, beside those on packets and on the disk.
use Rattle.std.specs.Prelude.{◌≡◌, ◌<◌, [], ◌&&◌, ℕ, Bool, true, false, not, List, Option, Some, None, IsTrue, is_some}
use Rattle.cal_base.specs.declared.identity.Ino.{Ino}
use Rattle.cal_base.specs.declared.identity.NodeId.{NodeId}
use Rattle.cal_base.specs.declared.identity.NodeId.TheVariants.{Client, Server}
use Rattle.message.specs.declared.message.Message.TheVariants.{Done}
use Rattle.std.specs.Prelude.{Contains}
use Rattle.tree_law.specs.declared.call.Call.{Call}
use Rattle.tree_law.specs.declared.entry.Entry.{Entry}
use Rattle.tree_law.specs.declared.entry.Entry.TheVariants.{Call as Called, Purge as PurgedEntry}
use Rattle.tree_law.specs.declared.reply.Reply.{Reply}
use Rattle.cluster_law.specs.declared.step.Event.{Event}
use Rattle.cluster_law.specs.declared.step.Event.TheVariants.{Start, Deliver, Tick, Crash, NewView, Gone, WriteBack}
use Rattle.cluster_law.specs.ClientRules.{OfClient, OfOthers, uses_turn}
use Rattle.cluster_law.specs.Delivery.{is_tick}
use Rattle.cluster_law.specs.History.{acts_done, before_acts, client_at, history, is_boot, sectors_before, server_at, turn, view_of_step}
use Rattle.cluster_law.specs.Lanes.{Act, Tells}
use Rattle.cluster_law.specs.Lists.{Each, EachAfter, onto}
use Rattle.cluster_law.specs.Noted.{Setting, Noted, halts}
use Rattle.cluster_law.specs.ServerRules.{ActsWell, EachAct, EndsWell, HasReserve, MountsWell, Occasion, OfNoView, OfView, entries_of}
use Rattle.cluster_law.specs.ServerState.{ServerState, is_admitted, uses}
use Rattle.cluster_law.specs.Sessions.{Taken, taken}
use Rattle.cluster_law.specs.Trace.{has_crashed, is_gone, seat}

-- a step is of an event that may happen: its node runs, a client starts a call where none is outstanding, and
-- only a crashed client is declared gone
abbrev pub Runs : Setting → List Noted → NodeId → Type 0
Runs w earlier (Client c) = (c.0 < w.volume.clients) × (has_crashed c.0 earlier ≡ false)
Runs w earlier (Server s) = IsTrue (is_some (seat s earlier))

abbrev pub RunsSome : Setting → List Noted → Option NodeId → Type 0
RunsSome w earlier None = ⊥
RunsSome w earlier (Some node) = Runs w earlier node

abbrev pub MayHappen : Setting → Noted → List Noted → Event → Type 0
MayHappen w s earlier (Start c call) = (s.step.node ≡ Some (Client c)) × Runs w earlier (Client c) × ((client_at w c.0 earlier).call ≡ None)
MayHappen w s earlier (Deliver packet stop) = RunsSome w earlier s.step.node
MayHappen w s earlier (Tick node stop) = (s.step.node ≡ Some node) × Runs w earlier node
MayHappen w s earlier (Crash node) = (s.step.node ≡ Some node) × Runs w earlier node
MayHappen w s earlier (NewView server stop) = s.step.node ≡ Some (Server server)
MayHappen w s earlier (Gone c) = (s.step.node ≡ None) × (c.0 < w.volume.clients) × IsTrue (has_crashed c.0 earlier) × (is_gone c.0 earlier ≡ false)
MayHappen w s earlier (WriteBack c fd) = (s.step.node ≡ Some (Client c)) × Runs w earlier (Client c)

pub record KeepsEvent (w : Setting) (s : Noted) (earlier : List Noted) : Type 0 where
  pub may : MayHappen w s earlier s.step.event

abbrev pub unless : Bool → Type 0 → Type 0
unless false P = P
unless true P = Unit {0}

-- no message that is taken is one that its node passes over, nor has it an item that a client passes over
abbrev pub UsesTaken : ServerState → Option Taken → Type 0
UsesTaken server None = Unit {0}
UsesTaken server (Some t) = IsTrue (uses server (record { 0 = t.lane.client }) t.message)

pub record KeepsUse (w : Setting) (s : Noted) (earlier : List Noted) : Type 0 where
  pub client : OfClient s.step.node (λ client. IsTrue (uses_turn (client_at w client earlier).book (turn w s earlier)))
  pub server : OfView (view_of_step s earlier) (λ view. UsesTaken (record (server_at w view earlier) { sectors = sectors_before w view s earlier }) (taken w earlier s))

-- what a server's step is told
abbrev pub occasion : Setting → ℕ → Noted → List Noted → Occasion
occasion w view s earlier = record {
  took = taken w earlier s;
  tick = is_tick s.step.event;
  boot = is_boot s.step.event;
  was_admitted = not (is_boot s.step.event) && is_admitted (server_at w view earlier);
  gone = λ client. is_gone client.0 earlier;
}

-- each act of a server's step is one that it may do where it stands, and it ends as it should, unless it halts
pub record Serves (w : Setting) (view : ℕ) (s : Noted) (earlier : List Noted) : Type 0 where
  pub mounts : MountsWell (is_boot s.step.event) (halts s) (sectors_before w view s earlier) s.acts
  pub acts : EachAct (before_acts w view s earlier) (ActsWell (occasion w view s earlier) (before_acts w view s earlier)) s.acts
  pub reserve : unless (halts s) (HasReserve (before_acts w view s earlier))
  pub ends : unless (halts s) (EndsWell (occasion w view s earlier) (before_acts w view s earlier) s.acts s.step.head)

pub record KeepsService (w : Setting) (s : Noted) (earlier : List Noted) : Type 0 where
  pub server : OfView (view_of_step s earlier) (λ view. Serves w view s earlier)

-- a Done stands in the history, as the reply to that call
pub record DoneStands (past : List Entry) (client number : ℕ) (reply : Reply) : Type 0 where
  pub call : Call
  pub new_ino : Option Ino
  pub stands : Contains past (Called (record { 0 = client }) number call reply new_ino)

abbrev pub IsInPast : List Entry → Act → Type 0
IsInPast past (Tells lane (Done number reply)) = DoneStands past lane.client number reply
IsInPast past act = Unit {0}

-- the entries of a server's step are those of its commits that became final, and a boot has none but one that
-- was held back; a step of no node has none. No message names a head but that of a server's step that goes on
abbrev pub HasEntries : Bool → Noted → Type 0
HasEntries true s = Unit {0}
HasEntries false s = s.step.entries ≡ entries_of (acts_done s)

pub record KeepsEntries (w : Setting) (s : Noted) (earlier : List Noted) : Type 0 where
  pub server : OfView (view_of_step s earlier) (λ view. HasEntries (is_boot s.step.event) s)
  pub none : OfNoView (view_of_step s earlier) (OfOthers s.step.node (s.step.entries ≡ []))
  pub done : EachAfter (λ before act. IsInPast (onto (entries_of before) (history earlier)) act) s.acts
  pub head : OfNoView (view_of_step s earlier) (s.step.head ≡ None)
  pub halted : IsTrue (halts s) → s.step.head ≡ None

-- a client that is purged crashed before, and was declared gone
abbrev pub AfterGone : List Noted → Entry → Type 0
AfterGone earlier (PurgedEntry c) = IsTrue (has_crashed c.0 earlier) × IsTrue (is_gone c.0 earlier)
AfterGone earlier entry = Unit {0}

pub record KeepsPurge (w : Setting) (s : Noted) (earlier : List Noted) : Type 0 where
  pub after_gone : Each (AfterGone earlier) s.step.entries
