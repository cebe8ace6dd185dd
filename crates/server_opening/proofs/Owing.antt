-- What a server owes for a message is what the law says.
use Rattle.std.proofs.Common.{◌≡◌, Bool, true, false, IsTrue, List, [], Option, Some, None, ℕ, is_none, is_some, if◌then◌else◌, ap, refl, subst, sym, ◌∙◌, true≢false}
use Rattle.cal_base.specs.declared.identity.ClientId.{ClientId}
use Rattle.message.specs.declared.message.Message.{Message}
use Rattle.message.specs.declared.message.Message.TheVariants.{Acquire, Grant, Refuse, Change, Done, Flush, Flushed, Revoke, Release, Ask, Piece, Wait, Admit}
use Rattle.rebuild.specs.Collecting.{missing_of}
use Rattle.revocation.specs.Waiting.{queued}
use Rattle.tree_law.specs.declared.call.Call.{Call}
use Rattle.tree_law.specs.declared.request.Asked.TheVariants.{Want as Wants, Change as Alters}
use Rattle.tree_law.specs.declared.request.Request.{Request}
use Rattle.tree_law.specs.declared.request.Want.{Want}
use Rattle.tree_law.specs.declared.request.Want.TheVariants.{Stat, Open, Readdir, Read, Write}
use Rattle.volume.specs.Volume.{Volume}
use Rattle.volume_edit.specs.Edit.{inode_at}
use Rattle.cluster_law.specs.Asking.{is_wait, was_told}
use Rattle.cluster_law.specs.Lanes as law
use Rattle.cluster_law.specs.ServerRules.{AnswersMessage}
use Rattle.cluster_law.specs.ServerState.{ServerState, arriving, as_request, hearing, is_admitted, is_file_kind, taking, uses, uses_want}
use Rattle.server_book.proofs.Deciding.{missing}
use Rattle.server_desk.specs.Desk.{DeskValue, IsLike, with_desk}
use Rattle.server_opening.specs.Owed.{IsPaid, owed_for, owed_request}
use Rattle.server_opening.specs.declared.hearing.Owed.{Owed}
use Rattle.server_opening.specs.declared.hearing.Owed.TheVariants.{Nothing, Wait as OwesWait}

-- what two servers have alike, the one that is chosen has
chosen : {X : Type 0} → (f : ServerState → X) (a b : ServerState) (x : X) → f a ≡ x → f b ≡ x → (t : Bool) → f (if t then a else b) ≡ x
chosen f a b x p q true = p
chosen f a b x p q false = q

arriving-volume : (s : ServerState) (r : Request) → (arriving s r).volume ≡ s.volume
arriving-volume s r = chosen (λ (t : ServerState). t.volume) (record s { requests = queued s.requests r }) s s.volume refl refl (is_admitted s)

arriving-collecting : (s : ServerState) (r : Request) → (arriving s r).collecting ≡ s.collecting
arriving-collecting s r = chosen (λ (t : ServerState). t.collecting) (record s { requests = queued s.requests r }) s s.collecting refl refl (is_admitted s)

taking-volume : (s : ServerState) (client : ClientId) (m : Message) → (taking s client m).volume ≡ s.volume
taking-volume s client (Acquire number want) = arriving-volume s (as_request client number (Wants want))
taking-volume s client (Grant number items) = refl
taking-volume s client (Refuse number free needed) = refl
taking-volume s client (Change number call) = arriving-volume s (as_request client number (Alters call))
taking-volume s client (Done number reply) = refl
taking-volume s client (Flush flush) = refl
taking-volume s client (Flushed number) = refl
taking-volume s client (Revoke revoke) = refl
taking-volume s client (Release release) = refl
taking-volume s client Ask = refl
taking-volume s client (Piece piece) = refl
taking-volume s client (Wait number other) = refl
taking-volume s client Admit = refl

-- hearing a message changes nothing of the volume
pub hearing-volume : (s : ServerState) (client : ClientId) (m : Message) → (hearing s client m).volume ≡ s.volume
unfolding hearing
hearing-volume s client m = chosen (λ (t : ServerState). t.volume) (taking s client m) s s.volume (taking-volume s client m) refl (uses s client m)

-- a request changes nothing of the reports
asking-collecting : (s : ServerState) (client : ClientId) (number : ℕ) (want : Want) → (hearing s client (Acquire number want)).collecting ≡ s.collecting
unfolding hearing
asking-collecting s client number want = chosen (λ (t : ServerState). t.collecting) (taking s client (Acquire number want)) s s.collecting (arriving-collecting s (as_request client number (Wants want))) refl (uses s client (Acquire number want))

change-collecting : (s : ServerState) (client : ClientId) (number : ℕ) (call : Call) → (hearing s client (Change number call)).collecting ≡ s.collecting
unfolding hearing
change-collecting s client number call = arriving-collecting s (as_request client number (Alters call))

-- what may be wanted is told by the volume alone
wanted-by-volume : (a b : ServerState) (want : Want) → a.volume ≡ b.volume → uses_want a want ≡ uses_want b want
wanted-by-volume a b (Stat path) e = refl
wanted-by-volume a b (Open path) e = refl
wanted-by-volume a b (Readdir path) e = refl
wanted-by-volume a b (Read ino) e = ap (λ (v : Volume). is_file_kind (inode_at v.inodes ino.0).kind) e
wanted-by-volume a b (Write ino) e = ap (λ (v : Volume). is_file_kind (inode_at v.inodes ino.0).kind) e

is-some : {X : Type 0} → (o : Option X) → is_none o ≡ false → is_some o ≡ true
is-some None e = absurd (true≢false e)
is-some (Some x) e = refl

-- a request that waits is owed its Wait
owed-wait : (d : DeskValue) (number : ℕ) → is_none (missing_of d.collecting) ≡ false → owed_request d number ≡ OwesWait number
owed-wait d number e = ap (λ (t : Bool). if t then Nothing else OwesWait number) e

owed-want : (d : DeskValue) (v : Volume) (number : ℕ) (want : Want) → uses_want (with_desk d v []) want ≡ true → is_none (missing_of d.collecting) ≡ false → owed_for d v (Acquire number want) ≡ OwesWait number
owed-want d v number want u e = ap (λ (t : Bool). if t then owed_request d number else Nothing) u ∙ owed-wait d number e

-- the desk misses whom the law's server does
misses : (d : DeskValue) (s : ServerState) → IsLike d s → missing_of d.collecting ≡ missing_of s.collecting
misses d s like = missing (with_desk d s.volume s.sectors) s like

-- what the desk owes for a message, done, is what the law asks: `d` is the desk before it hears the message, `e` after
pub answers : (d e : DeskValue) (v : Volume) (s : ServerState) (client : ClientId) (m : Message) (acts : List law.Act) → IsLike d s → v ≡ s.volume → IsLike e (hearing s client m)
    → IsPaid e (hearing s client m) client (owed_for d v m) acts → IsTrue (uses (hearing s client m) client m) → AnswersMessage (hearing s client m) acts client m
answers d e v s client (Acquire number want) acts like same like' paid used = λ missed. by missed
  where
    start : ServerState
    start = hearing s client (Acquire number want)

    by : is_admitted start ≡ false → IsTrue (was_told client.0 is_wait acts)
    by missed = subst (λ (o : Owed). IsPaid e start client o acts) (owed-want d v number want wanted before) paid after
      where
        wanted : uses_want (with_desk d v []) want ≡ true
        wanted = wanted-by-volume (with_desk d v []) start want (same ∙ sym (hearing-volume s client (Acquire number want))) ∙ used

        before : is_none (missing_of d.collecting) ≡ false
        before = ap is_none (misses d s like ∙ ap missing_of (sym (asking-collecting s client number want))) ∙ missed

        after : IsTrue (is_some (missing_of e.collecting))
        after = is-some (missing_of e.collecting) (ap is_none (misses e start like') ∙ missed)
answers d e v s client (Grant number items) acts like same like' paid used = tt
answers d e v s client (Refuse number free needed) acts like same like' paid used = tt
answers d e v s client (Change number call) acts like same like' paid used = λ missed. by missed
  where
    start : ServerState
    start = hearing s client (Change number call)

    by : is_admitted start ≡ false → IsTrue (was_told client.0 is_wait acts)
    by missed = subst (λ (o : Owed). IsPaid e start client o acts) (owed-wait d number before) paid after
      where
        before : is_none (missing_of d.collecting) ≡ false
        before = ap is_none (misses d s like ∙ ap missing_of (sym (change-collecting s client number call))) ∙ missed

        after : IsTrue (is_some (missing_of e.collecting))
        after = is-some (missing_of e.collecting) (ap is_none (misses e start like') ∙ missed)
answers d e v s client (Done number reply) acts like same like' paid used = tt
answers d e v s client (Flush flush) acts like same like' paid used = paid used
answers d e v s client (Flushed number) acts like same like' paid used = tt
answers d e v s client (Revoke revoke) acts like same like' paid used = tt
answers d e v s client (Release release) acts like same like' paid used = tt
answers d e v s client Ask acts like same like' paid used = tt
answers d e v s client (Piece piece) acts like same like' paid used = tt
answers d e v s client (Wait number other) acts like same like' paid used = tt
answers d e v s client Admit acts like same like' paid used = tt
