-- What is owed at the end of a step stays done as acts are put to others.
use Rattle.std.proofs.Common.{◌≡◌, ◌∷◌, [], ◌&&◌, ℕ, Bool, not, IsTrue, List, Option, Some, None, is_none, filter, ap, refl, sym, ◌∙◌, true≢false}
use Rattle.cal_base.specs.Limits.{clients}
use Rattle.cal_base.specs.declared.identity.ClientId.{ClientId}
use Rattle.cal_base.specs.declared.identity.Ino.{Ino}
use Rattle.message.specs.declared.message.Message.{Message}
use Rattle.message.specs.declared.message.Message.TheVariants.{Acquire, Grant, Refuse, Change, Done, Flush, Flushed, Revoke as Asks, Release, Ask, Piece, Wait, Admit}
use Rattle.rebuild.specs.Collecting.{Collecting, missing_of, next_of, standing_of}
use Rattle.revocation.specs.Revokes.{revokes_of}
use Rattle.token_kind.specs.declared.blocker.Blocker.{Blocker}
use Rattle.token_table.specs.Blockers.{clients_below}
use Rattle.cluster_law.specs.Asking.{deserted, first_to_admit, holders_of, is_admit, is_flushed, is_wait, is_whole, next_revoke, was_told}
use Rattle.cluster_law.specs.Lanes as law
use Rattle.cluster_law.specs.Lists.{first_of}
use Rattle.cluster_law.specs.Removing.{HasDone}
use Rattle.cluster_law.specs.ServerRules.{AnswersMessage, AnswersTaken, Collected, DealsWithOrphan, FreesOrAsks, IsPurgeOf, IsReapOf, Occasion, Removes}
use Rattle.cluster_law.specs.ServerState.{ServerState}
use Rattle.cluster_law.specs.Sessions.{Taken}
use Rattle.server_book.proofs.Deciding.{missing, next, revoked, stands}
use Rattle.server_desk.specs.Desk.{with_desk}
use Rattle.server_draft.specs.Acts.{acts_of}
use Rattle.server_draft.specs.Draft.{Follows, reached}
use Rattle.server_draft.specs.declared.draft.Draft.{Draft}

-- what was told before is told after
abbrev pub StaysTold : List law.Act → List law.Act → Type 0
StaysTold before after = (client : ℕ) (test : Message → Bool) → IsTrue (was_told client test before) → IsTrue (was_told client test after)

-- what was purged and freed before is so after
abbrev pub StaysPurged : List law.Act → List law.Act → Type 0
StaysPurged before after = (client : ClientId) → HasDone (IsPurgeOf client) before → HasDone (IsPurgeOf client) after

abbrev pub StaysFreed : List law.Act → List law.Act → Type 0
StaysFreed before after = (ino : Ino) → HasDone (IsReapOf ino) before → HasDone (IsReapOf ino) after

-- the message that was taken stays answered
answers-on : (start : ServerState) (before after : List law.Act) (client : ClientId) (m : Message) → StaysTold before after → AnswersMessage start before client m → AnswersMessage start after client m
answers-on start before after client (Acquire number want) told answered = λ waits. told client.0 is_wait (answered waits)
answers-on start before after client (Grant number items) told answered = tt
answers-on start before after client (Refuse number free needed) told answered = tt
answers-on start before after client (Change number call) told answered = λ waits. told client.0 is_wait (answered waits)
answers-on start before after client (Done number reply) told answered = tt
answers-on start before after client (Flush flush) told answered = told client.0 is_flushed answered
answers-on start before after client (Flushed number) told answered = tt
answers-on start before after client (Asks revoke) told answered = tt
answers-on start before after client (Release release) told answered = tt
answers-on start before after client Ask told answered = tt
answers-on start before after client (Piece piece) told answered = tt
answers-on start before after client (Wait number least) told answered = tt
answers-on start before after client Admit told answered = tt

pub stays-taken : (start : ServerState) (before after : List law.Act) (took : Option Taken) → StaysTold before after → AnswersTaken start before took → AnswersTaken start after took
stays-taken start before after None told answered = tt
stays-taken start before after (Some t) told answered = λ used. answers-on start before after (record { 0 = t.lane.client }) t.message told (answered used)

-- what was removed stays so, if no Revoke is left to send where none was
frees-on : (start mid end : ServerState) (before after : List law.Act) (ino : Ino) (holders : List Blocker) → StaysFreed before after
    → ((blockers : List Blocker) → next_revoke mid blockers ≡ None → next_revoke end blockers ≡ None) → FreesOrAsks start mid before ino holders → FreesOrAsks start end after ino holders
frees-on start mid end before after ino [] freed asked deals = freed ino deals
frees-on start mid end before after ino (holder ∷ holders) freed asked deals = asked (holder ∷ holders) deals

deals-on : (start mid end : ServerState) (before after : List law.Act) (orphan : Option Ino) → StaysFreed before after
    → ((blockers : List Blocker) → next_revoke mid blockers ≡ None → next_revoke end blockers ≡ None) → DealsWithOrphan start mid before orphan → DealsWithOrphan start end after orphan
deals-on start mid end before after None freed asked deals = tt
deals-on start mid end before after (Some ino) freed asked deals = frees-on start mid end before after ino (holders_of start (Some ino)) freed asked deals

pub stays-removed : (start mid end : ServerState) (before after : List law.Act) (due : Option ClientId) → StaysPurged before after → StaysFreed before after
    → ((blockers : List Blocker) → next_revoke mid blockers ≡ None → next_revoke end blockers ≡ None) → Removes start mid before due → Removes start end after due
stays-removed start mid end before after None purged freed asked removes = λ admitted. deals-on start mid end before after (deserted start) freed asked (removes admitted)
stays-removed start mid end before after (Some client) purged freed asked removes = purged client removes

none-first : {X : Type 0} (xs : List X) → first_of xs ≡ None → xs ≡ []
none-first [] e = refl
none-first (x ∷ xs) e = absurd (true≢false (sym (ap (λ (o : Option _). is_none o) e)))

-- of two drafts that follow one server, one goes on from the other
module _ (view : ℕ) (o : Occasion) (start : ServerState) (old new : Draft) (followed : Follows view o start old) (follows : Follows view o start new) where
  abbrev mid : ServerState
  mid = reached view start old

  abbrev end : ServerState
  end = reached view start new

  -- no Revoke is left to send where none was
  pub stays-asked : ((blockers : List Blocker) → revokes_of old.desk.asked blockers ≡ [] → revokes_of new.desk.asked blockers ≡ [])
      → (blockers : List Blocker) → next_revoke mid blockers ≡ None → next_revoke end blockers ≡ None
  stays-asked lower blockers none =
      sym (revoked (with_desk new.desk end.volume end.sectors) end follows.like blockers)
      ∙ ap first_of (lower blockers (none-first (revokes_of old.desk.asked blockers) (revoked (with_desk old.desk mid.volume mid.sectors) mid followed.like blockers ∙ none)))

  -- where clients stand as they did, nobody is left to be asked or to be admitted
  module _ (standing : record new.desk.collecting { table = old.desk.collecting.table } ≡ old.desk.collecting) where
    asks-next : next_of end.collecting ≡ next_of mid.collecting
    asks-next =
        sym (next (with_desk new.desk end.volume end.sectors) end follows.like)
        ∙ ap next_of standing
        ∙ next (with_desk old.desk mid.volume mid.sectors) mid followed.like

    misses : missing_of end.collecting ≡ missing_of mid.collecting
    misses =
        sym (missing (with_desk new.desk end.volume end.sectors) end follows.like)
        ∙ ap missing_of standing
        ∙ missing (with_desk old.desk mid.volume mid.sectors) mid followed.like

    stood : (client : ClientId) → standing_of end.collecting client ≡ standing_of mid.collecting client
    stood client =
        sym (stands (with_desk new.desk end.volume end.sectors) end follows.like client)
        ∙ ap (λ (s : Collecting). standing_of s client) standing
        ∙ stands (with_desk old.desk mid.volume mid.sectors) mid followed.like client

    pub stays-collected : ((client : ℕ) → was_told client is_admit (acts_of view new.acts) ≡ was_told client is_admit (acts_of view old.acts))
        → Collected o mid (acts_of view old.acts) → Collected o end (acts_of view new.acts)
    stays-collected admits collected = record {
      asked = asks-next ∙ collected.asked;
      admitted = λ new admitted. first ∙ collected.admitted new (ap (λ (c : Option ClientId). is_none c) (sym misses) ∙ admitted);
    }
      where
        first : first_to_admit end (acts_of view new.acts) ≡ first_to_admit mid (acts_of view old.acts)
        first = λ i. first_of (filter (λ client. is_whole (stood client i) && not (admits client.0 i)) (clients_below clients))
