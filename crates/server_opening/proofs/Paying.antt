-- What a server tells for a message, in a step that has done nothing yet.
use Rattle.std.proofs.Common.{◌≡◌, ◌++◌, ◌∷◌, ◌&&◌, [], Bool, true, false, ℕ, nat_eq, is_none, if◌then◌else◌, List, Option, Some, None, ap, refl, subst, sym, ◌∙◌}
use Rattle.std.proofs.lemmas.Bool.{eq-eqb}
use Rattle.cal_base.specs.declared.identity.ClientId.{ClientId}
use Rattle.message.specs.declared.message.Message.{Message}
use Rattle.message.specs.declared.message.Message.TheVariants.{Acquire, Grant, Refuse, Change, Done, Flush, Flushed, Revoke, Release, Ask, Piece, Wait, Admit}
use Rattle.rebuild.specs.Collecting.{missing_of}
use Rattle.volume.specs.Volume.{Volume}
use Rattle.cluster_law.specs.Asking.{is_admit, was_told}
use Rattle.cluster_law.specs.Lanes as law
use Rattle.cluster_law.specs.Removing.{has_removed}
use Rattle.cluster_law.specs.ServerState.{ServerState, after_acts, uses_want}
use Rattle.cluster_law.specs.Sessions.{Taken}
use Rattle.server_desk.specs.Desk.{DeskValue, with_desk}
use Rattle.cluster_law.specs.ServerRules.{Occasion}
use Rattle.server_book.proofs.Deciding.{missing}
use Rattle.server_draft.specs.Acts.{acts_of}
use Rattle.server_draft.specs.Draft.{Follows, reached}
use Rattle.server_draft.specs.declared.act.Act.{Act}
use Rattle.server_draft.specs.declared.act.Act.TheVariants.{Tells}
use Rattle.server_draft.specs.declared.draft.Draft.{Draft}
use Rattle.server_reports.specs.Reports.{HasAdmittedNobody, with_wait}
use Rattle.server_opening.specs.Owed.{IsOwedFor, owed_for, owed_request}
use Rattle.server_opening.specs.Ungranted.{HasGrantedNobody, is_grant}
use Rattle.server_opening.specs.declared.hearing.Owed.{Owed}
use Rattle.server_opening.specs.declared.hearing.Owed.TheVariants.{Nothing, Wait as OwesWait}

-- nothing was told before the first act
pub told-none : (view client : ℕ) (test : Message → Bool) (acts : List Act) → acts ≡ [] → was_told client test (acts_of view acts) ≡ false
unfolding acts_of
told-none view client test acts e = ap (λ (xs : List Act). was_told client test (acts_of view xs)) e

pub removed-none : (view : ℕ) (acts : List Act) → acts ≡ [] → has_removed (acts_of view acts) ≡ false
unfolding acts_of
removed-none view acts e = ap (λ (xs : List Act). has_removed (acts_of view xs)) e

-- and the server is as the step began
pub at-start : (view : ℕ) (start : ServerState) (acts : List Act) → acts ≡ [] → after_acts start (acts_of view acts) ≡ start
unfolding acts_of after_acts
at-start view start acts e = ap (λ (xs : List Act). after_acts start (acts_of view xs)) e

-- whom a draft's desk misses, the law's server does
pub law-missing : (view : ℕ) (o : Occasion) (start : ServerState) (d : Draft) → Follows view o start d → missing_of d.desk.collecting ≡ missing_of (reached view start d).collecting
law-missing view o start d follows = let server = reached view start d in missing (with_desk d.desk server.volume server.sectors) server follows.like

pub nobody-none : (view : ℕ) (acts : List Act) → acts ≡ [] → HasAdmittedNobody view acts
nobody-none view acts e = λ client. told-none view client is_admit acts e

-- a Wait admits nobody
waits-one : (view : ℕ) (client : ClientId) (number : ℕ) (least : ClientId) → HasAdmittedNobody view (Tells client (Wait number least) ∷ [])
unfolding acts_of
waits-one view client number least = λ other. at (nat_eq client.0 other)
  where
    at : (b : Bool) → (if b && false then true else false) ≡ false
    at true = refl
    at false = refl

pub nobody-waits : (view : ℕ) (d new : Draft) (client : ClientId) (number : ℕ) (missing : Option ClientId) → new ≡ with_wait d client number missing → d.acts ≡ [] → HasAdmittedNobody view new.acts
nobody-waits view d new client number None e none = nobody-none view new.acts (ap (λ (x : Draft). x.acts) e ∙ none)
nobody-waits view d new client number (Some least) e none =
    subst (HasAdmittedNobody view) (sym (ap (λ (x : Draft). x.acts) e ∙ ap (λ (xs : List Act). xs ++ Tells client (Wait number least) ∷ []) none)) (waits-one view client number least)

-- nor is anything granted
pub ungranted-none : (view : ℕ) (acts : List Act) → acts ≡ [] → HasGrantedNobody view acts
ungranted-none view acts e = λ client. told-none view client is_grant acts e

wait-grants-none : (view : ℕ) (client : ClientId) (number : ℕ) (least : ClientId) → HasGrantedNobody view (Tells client (Wait number least) ∷ [])
unfolding acts_of
wait-grants-none view client number least = λ other. at (nat_eq client.0 other)
  where
    at : (b : Bool) → (if b && false then true else false) ≡ false
    at true = refl
    at false = refl

pub ungranted-waits : (view : ℕ) (d new : Draft) (client : ClientId) (number : ℕ) (missing : Option ClientId) → new ≡ with_wait d client number missing → d.acts ≡ [] → HasGrantedNobody view new.acts
ungranted-waits view d new client number None e none = ungranted-none view new.acts (ap (λ (x : Draft). x.acts) e ∙ none)
ungranted-waits view d new client number (Some least) e none =
    subst (HasGrantedNobody view) (sym (ap (λ (x : Draft). x.acts) e ∙ ap (λ (xs : List Act). xs ++ Tells client (Wait number least) ∷ []) none)) (wait-grants-none view client number least)

-- what the desk owes is owed for the message that is taken
same-number : (n : ℕ) → nat_eq n n ≡ true
same-number n = eq-eqb n n refl

owed-request : (t : Bool) (took : Option Taken) (client : ClientId) (number : ℕ) → IsOwedFor took client (OwesWait number) → IsOwedFor took client (if t then Nothing else OwesWait number)
owed-request true took client number h = tt
owed-request false took client number h = h

owed-if : (t : Bool) (took : Option Taken) (client : ClientId) (o : Owed) → IsOwedFor took client o → IsOwedFor took client (if t then o else Nothing)
owed-if true took client o h = h
owed-if false took client o h = tt

pub owed-taken : (view : ℕ) (d : DeskValue) (v : Volume) (client : ClientId) (m : Message)
    → IsOwedFor (Some (record { lane = record { client = client.0; view = view; way = law.Up }; message = m })) client (owed_for d v m)
owed-taken view d v client (Acquire number want) = owed-if (uses_want (with_desk d v []) want) (Some (record { lane = record { client = client.0; view = view; way = law.Up }; message = Acquire number want })) client (owed_request d number)
    (owed-request (is_none (missing_of d.collecting)) (Some (record { lane = record { client = client.0; view = view; way = law.Up }; message = Acquire number want })) client number (refl, same-number number))
owed-taken view d v client (Grant number items) = tt
owed-taken view d v client (Refuse number free needed) = tt
owed-taken view d v client (Change number call) =
    owed-request (is_none (missing_of d.collecting)) (Some (record { lane = record { client = client.0; view = view; way = law.Up }; message = Change number call })) client number (refl, same-number number)
owed-taken view d v client (Done number reply) = tt
owed-taken view d v client (Flush flush) = (refl, refl)
owed-taken view d v client (Flushed number) = tt
owed-taken view d v client (Revoke revoke) = tt
owed-taken view d v client (Release release) = tt
owed-taken view d v client Ask = tt
owed-taken view d v client (Piece piece) = tt
owed-taken view d v client (Wait number other) = tt
owed-taken view d v client Admit = tt
