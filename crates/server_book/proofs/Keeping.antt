-- What a server may ask and remove an alike one may; so each act that keeps the rules does so in both.
use Rattle.std.proofs.Common.{◌≡◌, ◌∷◌, [], ◌≤◌, ◌&&◌, ◌⊎◌, inl, inr, List, Bool, Option, Some, IsTrue, ℕ, ap, subst, sym, ◌∙◌, is_none}
use Rattle.cal_base.specs.declared.identity.ClientId.{ClientId}
use Rattle.cal_base.specs.declared.identity.Ino.{Ino}
use Rattle.message.specs.declared.message.Message.TheVariants.{Acquire, Grant, Refuse, Change, Done, Flush, Flushed, Revoke, Release, Ask, Piece, Wait, Admit}
use Rattle.token_kind.specs.declared.revoke.Revoke.{Revoke as RevokeRecord}
use Rattle.volume_plan.specs.Plans.{free_count, purge_of}
use Rattle.cluster_law.specs.Asking.{Admits, CollectsWell, Revokes, RevokesWell, Waits, blocks_of, deserted, holders_of, next_revoke}
use Rattle.cluster_law.specs.Blocking.{reserved}
use Rattle.cluster_law.specs.Granting.{head}
use Rattle.cluster_law.specs.Lanes.{Act, Mounts, Tells, Commits, Drops, Commit, Deed, Changes, Flushes, Purges, Reaps}
use Rattle.cluster_law.specs.Removing.{PurgesDue, ReapsDeserted, RemovesDeed, RemovesWell}
use Rattle.cluster_law.specs.ServerRules.{ActsWell, EachAct, HasReserve, Occasion, looks_at_orphans}
use Rattle.cluster_law.specs.ServerState.{ServerState, after_act, after_acts}
use Rattle.cluster_law.specs.Sessions.{Taken}
use Rattle.server_book.specs.Alike.{Alike}
use Rattle.server_book.proofs.Deciding.{admits, admitted, blocked-head, holders, missing, next, orphan, purged, reserve, revoked}
use Rattle.server_book.proofs.Granted.{commits-well, grants-well, is-admitted, refuses-well}
use Rattle.server_book.proofs.Moving.{acts-all, acts-once}

module _ (a b : ServerState) (alike : Alike a b) where
  -- what is asked while reports are collected
  wait : (took : Option Taken) (before : List Act) (client : ClientId) (number : ℕ) (least : ClientId) → Waits a took before client number least → Waits b took before client number least
  wait took before client number least g = record { taken = g.taken; least_is = sym (missing a b alike) ∙ g.least_is; once = g.once }

  admit : (was_admitted : Bool) (before : List Act) (client : ClientId) → Admits was_admitted a before client → Admits was_admitted b before client
  admit was_admitted before client g = record { new = g.new; admitted = is-admitted a b alike g.admitted; next = sym (admits a b alike before) ∙ g.next }

  pub collects-well : (took : Option Taken) (was_admitted : Bool) (before : List Act) (act : Act) → CollectsWell took was_admitted a before act → CollectsWell took was_admitted b before act
  collects-well took was_admitted before (Mounts volume) h = h
  collects-well took was_admitted before (Tells lane (Acquire number want)) h = h
  collects-well took was_admitted before (Tells lane (Grant number items)) h = h
  collects-well took was_admitted before (Tells lane (Refuse number free needed)) h = h
  collects-well took was_admitted before (Tells lane (Change number call)) h = h
  collects-well took was_admitted before (Tells lane (Done number reply)) h = h
  collects-well took was_admitted before (Tells lane (Flush flush)) h = h
  collects-well took was_admitted before (Tells lane (Flushed number)) h = h
  collects-well took was_admitted before (Tells lane (Revoke revoke)) h = h
  collects-well took was_admitted before (Tells lane (Release release)) h = h
  collects-well took was_admitted before (Tells lane Ask) h = sym (next a b alike) ∙ h
  collects-well took was_admitted before (Tells lane (Piece piece)) h = h
  collects-well took was_admitted before (Tells lane (Wait number least)) h = wait took before (record { 0 = lane.client }) number least h
  collects-well took was_admitted before (Tells lane Admit) h = admit was_admitted before (record { 0 = lane.client }) h
  collects-well took was_admitted before (Commits commit) h = h
  collects-well took was_admitted before Drops h = h

  -- what is asked back for the head of the line, and for the least deserted orphan
  pub head-revoke : next_revoke a (blocks_of a (head a)) ≡ next_revoke b (blocks_of b (head b))
  head-revoke = revoked a b alike (blocks_of a (head a)) ∙ ap (next_revoke b) (blocked-head a b alike)

  orphan-revoke : next_revoke a (holders_of a (deserted a)) ≡ next_revoke b (holders_of b (deserted b))
  orphan-revoke = revoked a b alike (holders_of a (deserted a)) ∙ ap (next_revoke b) (holders a b alike (deserted a) ∙ ap (holders_of b) (orphan a b alike))

  revoke-by : (some others : Bool) → some ≡ others → (client : ClientId) (revoke : RevokeRecord) → Revokes some a client revoke → Revokes others b client revoke
  revoke-by some others e client revoke g = record { admitted = is-admitted a b alike g.admitted; next = by g.next }
    where
      by : (next_revoke a (blocks_of a (head a)) ≡ Some (client, revoke)) ⊎ (IsTrue some × (next_revoke a (holders_of a (deserted a)) ≡ Some (client, revoke)))
          → (next_revoke b (blocks_of b (head b)) ≡ Some (client, revoke)) ⊎ (IsTrue others × (next_revoke b (holders_of b (deserted b)) ≡ Some (client, revoke)))
      by (inl h) = inl (sym head-revoke ∙ h)
      by (inr h) = inr (subst IsTrue e h.0, sym orphan-revoke ∙ h.1)

  pub revokes-well : (some others : Bool) → some ≡ others → (act : Act) → RevokesWell some a act → RevokesWell others b act
  revokes-well some others e (Mounts volume) h = h
  revokes-well some others e (Tells lane (Acquire number want)) h = h
  revokes-well some others e (Tells lane (Grant number items)) h = h
  revokes-well some others e (Tells lane (Refuse number free needed)) h = h
  revokes-well some others e (Tells lane (Change number call)) h = h
  revokes-well some others e (Tells lane (Done number reply)) h = h
  revokes-well some others e (Tells lane (Flush flush)) h = h
  revokes-well some others e (Tells lane (Flushed number)) h = h
  revokes-well some others e (Tells lane (Revoke revoke)) h = revoke-by some others e (record { 0 = lane.client }) revoke h
  revokes-well some others e (Tells lane (Release release)) h = h
  revokes-well some others e (Tells lane Ask) h = h
  revokes-well some others e (Tells lane (Piece piece)) h = h
  revokes-well some others e (Tells lane (Wait number least)) h = h
  revokes-well some others e (Tells lane Admit) h = h
  revokes-well some others e (Commits commit) h = h
  revokes-well some others e Drops h = h

  -- who is purged, and what is freed
  purge : (gone : ClientId → Bool) (before : List Act) (client : ClientId) (commit : Commit) → PurgesDue gone a before client commit → PurgesDue gone b before client commit
  purge gone before client commit g = record {
    due_is = sym (purged a b alike gone) ∙ g.due_is;
    alone = g.alone;
    edit_is = g.edit_is ∙ ap (λ v. purge_of v client) alike.volume;
    lays_none = g.lays_none;
  }

  reap : (gone : ClientId → Bool) (before : List Act) (ino : Ino) (commit : Commit) → ReapsDeserted gone a before ino commit → ReapsDeserted gone b before ino commit
  reap gone before ino commit g = record {
    admitted = is-admitted a b alike g.admitted;
    none_due = sym (purged a b alike gone) ∙ g.none_due;
    least = sym (orphan a b alike) ∙ g.least;
    unheld = sym (holders a b alike (Some ino)) ∙ g.unheld;
    alone = g.alone;
    edit_is = g.edit_is;
    lays_none = g.lays_none;
  }

  removes-deed : (tick : Bool) (gone : ClientId → Bool) (before : List Act) (deed : Deed) (commit : Commit) → RemovesDeed tick gone a before deed commit → RemovesDeed tick gone b before deed commit
  removes-deed tick gone before (Changes asked reply new_ino) commit h = h
  removes-deed tick gone before (Flushes client flush) commit h = h
  removes-deed tick gone before (Purges client) commit h = (h.0, purge gone before (record { 0 = client }) commit h.1)
  removes-deed tick gone before (Reaps ino) commit h = (h.0, reap gone before ino commit h.1)

  pub removes-well : (tick : Bool) (gone : ClientId → Bool) (before : List Act) (act : Act) → RemovesWell tick gone a before act → RemovesWell tick gone b before act
  removes-well tick gone before (Mounts volume) h = h
  removes-well tick gone before (Tells lane message) h = h
  removes-well tick gone before (Commits commit) h = removes-deed tick gone before commit.deed commit h
  removes-well tick gone before Drops h = h

  -- the blocks that are kept
  pub reserve-stays : HasReserve a → HasReserve b
  reserve-stays h admitted-b =
      subst (λ n. n ≤ free_count b.volume) (reserve a b alike)
      (subst (λ v. reserved a ≤ free_count v) alike.volume (h (subst IsTrue (sym (admitted a b alike)) admitted-b)))

  -- orphans are looked at by both
  pub looks : (o : Occasion) → looks_at_orphans o a ≡ looks_at_orphans o b
  looks o = λ i. o.tick && admitted a b alike i && is_none (purged a b alike o.gone i)

-- an act that keeps the rules in a server does so in an alike one
pub act-keeps : (o : Occasion) (start start' a b : ServerState) (before : List Act) (act : Act) → Alike start start' → Alike a b → ActsWell o start a before act → ActsWell o start' b before act
act-keeps o start start' a b before act starts alike g = record {
  grants = grants-well a b alike act g.grants;
  refuses = refuses-well a b alike act g.refuses;
  commits = commits-well a b alike o.took act g.commits;
  collects = collects-well a b alike o.took o.was_admitted before act g.collects;
  revokes = revokes-well a b alike (looks_at_orphans o start) (looks_at_orphans o start') (looks start start' starts o) act g.revokes;
  removes = removes-well a b alike o.tick o.gone before act g.removes;
  reserve = reserve-stays (after_act a act) (after_act b act) (acts-once a b alike act) g.reserve;
}

-- and so do all acts of a step
pub each-keeps : (o : Occasion) (start start' a b : ServerState) (acts : List Act) → Alike start start' → Alike a b → EachAct a (ActsWell o start) acts → EachAct b (ActsWell o start') acts
each-keeps o start start' a b [] starts alike g = g
each-keeps o start start' a b (act ∷ before) starts alike g =
    (each-keeps o start start' a b before starts alike g.0, act-keeps o start start' (after_acts a before) (after_acts b before) before act starts (acts-all a b before alike) g.1)
