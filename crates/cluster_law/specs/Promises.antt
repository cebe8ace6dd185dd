-- What a user may rely on after each step.
use Rattle.std.specs.Prelude.{◌≡◌, ◌≢◌, ◌⊎◌, ◌+◌, ◌≤◌, ◌∷◌, [], ◌&&◌, ◌||◌, ℕ, Bool, false, nat_eq, nat_le, if◌then◌else◌, List, Option, Some, None, IsTrue, Contains, length}
use Rattle.cal_base.specs.Limits.{block_size}
use Rattle.cal_base.specs.declared.identity.ClientId.{ClientId}
use Rattle.cal_base.specs.declared.identity.Ino.{Ino}
use Rattle.shared_disk.specs.Sectors.{left_of, written}
use Rattle.token_kind.specs.Hold.{conflict}
use Rattle.token_kind.specs.declared.«class».Class.{Class}
use Rattle.token_kind.specs.declared.«class».Class.TheVariants.{Names, Data, Attr, Open}
use Rattle.token_kind.specs.declared.hold.Hold.{Hold}
use Rattle.token_kind.specs.declared.hold.Hold.TheVariants.{None as Nothing}
use Rattle.tree_law.specs.Legal.{IsLegal}
use Rattle.tree_law.specs.Tree.{descriptor_at, is_purged, node_at, writer_of}
use Rattle.tree_law.specs.declared.call.Call.{Call}
use Rattle.tree_law.specs.declared.entry.Entry.{Entry}
use Rattle.tree_law.specs.declared.entry.Entry.TheVariants.{Call as Called, Flush as FlushedEntry, Purge as PurgedEntry}
use Rattle.tree_law.specs.declared.reply.Reply.{Reply}
use Rattle.volume.specs.Numbers.{flush_count}
use Rattle.volume.specs.Stands.{Stands}
use Rattle.cluster_law.specs.declared.step.Answer.{Answer}
use Rattle.cluster_law.specs.Book.{Book, Flushing, flush_at}
use Rattle.cluster_law.specs.ClientRules.{OfClient}
use Rattle.cluster_law.specs.DiskRules.{held_now}
use Rattle.cluster_law.specs.History.{call_started, client_at, final_acts, history, tree_at}
use Rattle.cluster_law.specs.Lists.{Each, onto}
use Rattle.cluster_law.specs.Noted.{Setting, Noted, disk_now}
use Rattle.cluster_law.specs.Rules.{AfterGone}
use Rattle.cluster_law.specs.ServerRules.{entries_of}
use Rattle.cluster_law.specs.Trace.{is_client}

-- each call once

abbrev pub is_numbered : ℕ → Option Answer → Bool
is_numbered number None = false
is_numbered number (Some answer) = nat_eq answer.number number

unfoldable pub was_answered : ℕ → ℕ → List Noted → Bool
was_answered client number [] = false
was_answered client number (s ∷ earlier) = is_client s.step.node client && is_numbered number s.step.answer || was_answered client number earlier

-- how many entries of a history are of a call
abbrev pub counts : ℕ → ℕ → Entry → ℕ
counts client number (Called c n call reply new_ino) = if nat_eq c.0 client && nat_eq n number then 1 else 0
counts client number (FlushedEntry c ino) = 0
counts client number (PurgedEntry c) = 0

unfoldable pub entry_count : ℕ → ℕ → List Entry → ℕ
entry_count client number [] = 0
entry_count client number (entry ∷ earlier) = entry_count client number earlier + counts client number entry

-- an entry of a call that was started, and isn't answered before
abbrev pub IsOfStarted : List Noted → List Noted → Entry → Type 0
IsOfStarted trace earlier (Called c number call reply new_ino) = (call_started c.0 number trace ≡ Some call) × (was_answered c.0 number earlier ≡ false)
IsOfStarted trace earlier (FlushedEntry c ino) = Unit {0}
IsOfStarted trace earlier (PurgedEntry c) = Unit {0}

-- an answer stands in the history, as the reply to the call that was started
pub record AnswerStands (trace : List Noted) (client number : ℕ) (reply : Reply) : Type 0 where
  pub call : Call
  pub new_ino : Option Ino
  pub started : call_started client number trace ≡ Some call
  pub stands : Contains (history trace) (Called (record { 0 = client }) number call reply new_ino)

abbrev pub Stood : List Noted → ℕ → Option Answer → Type 0
Stood trace client None = Unit {0}
Stood trace client (Some answer) = AnswerStands trace client answer.number answer.reply

-- each answer has its one entry, made between the call's start and the answer, with that reply; no call has two
pub record OnceEach (w : Setting) (s : Noted) (earlier : List Noted) : Type 0 where
  pub answered : OfClient s.step.node (λ client. Stood (s ∷ earlier) client s.step.answer)
  pub started : Each (IsOfStarted (s ∷ earlier) earlier) s.step.entries
  pub one : (client number : ℕ) → entry_count client number (history (s ∷ earlier)) ≤ 1

-- the history is legal for one file tree
pub record LegalHistory (w : Setting) (s : Noted) (earlier : List Noted) : Type 0 where
  pub legal : IsLegal (history (s ∷ earlier))

-- what goes

abbrev pub is_of : ClientId → Entry → Bool
is_of client (Called c number call reply new_ino) = nat_eq c.0 client.0
is_of client (FlushedEntry c ino) = false
is_of client (PurgedEntry c) = nat_eq c.0 client.0

abbrev pub ends_writes : ClientId → Ino → Entry → Bool
ends_writes client ino (Called c number call reply new_ino) = false
ends_writes client ino (FlushedEntry c i) = nat_eq c.0 client.0 && nat_eq i.0 ino.0
ends_writes client ino (PurgedEntry c) = nat_eq c.0 client.0

abbrev pub HasSome : (Entry → Bool) → List Entry → Type 0
HasSome test [] = ⊥
HasSome test (entry ∷ entries) = IsTrue (test entry) ⊎ HasSome test entries

-- a client's descriptors change by its own calls and its purge alone; its unflushed writes to a file end by
-- their flush and its purge alone; and only a client that crashed and was declared gone is purged
pub record WhatGoes (w : Setting) (s : Noted) (earlier : List Noted) : Type 0 where
  pub descriptors : (client : ClientId) (fd : ℕ) → descriptor_at (tree_at earlier) client fd ≢ descriptor_at (tree_at (s ∷ earlier)) client fd → HasSome (is_of client) s.step.entries
  pub writes : (client : ClientId) (ino : Ino) → writer_of (node_at (tree_at earlier) ino) ≡ Some client → writer_of (node_at (tree_at (s ∷ earlier)) ino) ≢ Some client → HasSome (ends_writes client ino) s.step.entries
  pub purged : Each (AfterGone earlier) s.step.entries

-- tokens

-- what a client holds: of a file with a flush under way what that leaves, once its entry stands
abbrev pub left_or_held : ℕ → Class → Hold → Option Flushing → Hold
left_or_held done cls held None = held
left_or_held done Names held (Some flush) = held
left_or_held done Data held (Some flush) = if nat_le flush.number done then flush.leave_data else held
left_or_held done Attr held (Some flush) = if nat_le flush.number done then flush.leave_attr else held
left_or_held done Open held (Some flush) = held

abbrev pub book_at : Setting → ℕ → List Noted → Book
book_at w client trace = (client_at w client trace).book

unfoldable pub hold : Setting → List Noted → ClientId → Ino → Class → Hold
hold w trace client ino cls = if is_purged (tree_at trace) client then Nothing else left_or_held (flush_count client (history trace)) cls ((book_at w client.0 trace).holds ino cls) (flush_at (book_at w client.0 trace) ino)

-- no two clients hold conflicting tokens
pub record TokensApart (w : Setting) (s : Noted) (earlier : List Noted) : Type 0 where
  pub apart : (client other : ClientId) (ino : Ino) (cls : Class) → client.0 ≢ other.0 → conflict (hold w (s ∷ earlier) client ino cls) (hold w (s ∷ earlier) other ino cls) ≡ false

-- the disk

-- sectors stand for a history, or while an entry is held back for the history with it or without it
abbrev pub StandsWith : List (List ℕ) → Option Entry → List Entry → Type 0
StandsWith sectors None past = Stands sectors past
StandsWith sectors (Some entry) past = Stands sectors past ⊎ Stands sectors (entry ∷ past)

abbrev pub IsTorn : Option (List ℕ) → Type 0
IsTorn None = Unit {0}
IsTorn (Some bytes) = length bytes ≡ block_size

-- the sectors where these writes are cut after the first k, with the bytes of a torn one; and the history with
-- the entries of the commits that were final by then
abbrev pub cut_writes : Noted → ℕ → Option (List ℕ) → List (ℕ × List ℕ)
cut_writes s k torn = left_of s.step.writes k torn

abbrev pub history_cut : Noted → List Noted → ℕ → Option (List ℕ) → List Entry
history_cut s earlier k torn = onto (entries_of (final_acts (cut_writes s k torn) s.acts)) (history earlier)

-- the disk replays to the tree of the history, less unflushed writes: after the step; and had it been cut after
-- any of its writes, or within the next
pub record DiskStands (w : Setting) (s : Noted) (earlier : List Noted) : Type 0 where
  pub after : StandsWith s.disk.sectors s.held (history (s ∷ earlier))
  pub cut : (k : ℕ) → k ≤ length s.step.writes → (torn : Option (List ℕ)) → IsTorn torn → StandsWith (written (disk_now w earlier).sectors (cut_writes s k torn)) (held_now earlier) (history_cut s earlier k torn)
