-- All holds of the bytes and the size of an orphan are asked back.
use Rattle.std.proofs.Common.{◌≡◌, ◌≤◌, ◌<◌, ◌++◌, ◌∷◌, ◌&&◌, [], ℕ, zero, suc, true, false, List, Option, Some, None, IsTrue, is_none, nat_eq, ap, refl, subst, sym, ◌∙◌, arith, Bool, if◌then◌else◌, length, true≢false}
use Rattle.std.specs.Prelude.{◌==◌}
use Rattle.std.specs.List.{All, cons_option, filter_map}
use Rattle.std.proofs.lemmas.List.Elements.{All-append, All-cons, All-contains, All-head, All-nil, All-push, All-tail}
use Rattle.std.proofs.lemmas.Bool.{eqb-true}
use Rattle.cal_base.specs.declared.identity.ClientId.{ClientId}
use Rattle.cal_base.specs.declared.identity.Ino.{Ino}
use Rattle.message.specs.declared.message.Message.{Message}
use Rattle.message.specs.declared.message.Message.TheVariants.{Revoke as Asks}
use Rattle.revocation.specs.Formed.{AreAskable, is_of_directory}
use Rattle.revocation.specs.Revokes.{revokes_of}
use Rattle.revocation.proofs.Askable.{touchers_askable}
use Rattle.token_kind.specs.declared.blocker.Blocker.{Blocker}
use Rattle.token_kind.specs.declared.«class».Class.{Class}
use Rattle.token_kind.specs.declared.«class».Class.TheVariants.{Attr, Data}
use Rattle.token_kind.specs.declared.hold.Hold.{Hold}
use Rattle.token_kind.specs.declared.revoke.Revoke.{Revoke}
use Rattle.token_kind.specs.Hold.{is_held}
use Rattle.token_kind.specs.declared.hold.Hold.TheVariants.{None as Nothing}
use Rattle.token_table.specs.Blockers.{clients_below, toucher_of, touchers_of}
use Rattle.token_table.specs.Table.{Table, held_of}
use Rattle.token_table.specs.declared.hold_key.HoldKey.{HoldKey}
use Rattle.cluster_law.specs.Asking.{deserted, holders_of, next_revoke, was_told}
use Rattle.cluster_law.specs.Lanes.{Act, Down, Tells}
use Rattle.cluster_law.specs.Lists.{first_of}
use Rattle.cluster_law.specs.Removing.{HasDone, has_removed}
use Rattle.cluster_law.specs.ServerRules.{ActsWell, EachAct, FreesOrAsks, HasReserve, IsReapOf, Occasion, looks_at_orphans}
use Rattle.cluster_law.specs.ServerState.{ServerState, after_acts, asked_with as asked_in, is_admitted}
use Rattle.server_book.specs.Alike.{revoking}
use Rattle.server_book.proofs.Deciding.{holders}
use Rattle.server_book.proofs.Faces.{asked-path, revokes_by}
use Rattle.server_book.proofs.Orphans.{orphans-told}
use Rattle.server_book.proofs.Revoking.{tells-alone}
use Rattle.server_book.proofs.Telling.{tell_all}
use Rattle.server_book.proofs.Turning.{told-once}
use Rattle.server_desk.specs.Desk.{DeskValue, IsLike, with_desk}
use Rattle.server_draft.specs.Acts.{acts_of}
use Rattle.server_draft.specs.Draft.{IsWithin}
use Rattle.server_draft.specs.declared.act.Act.{Act as DraftAct}
use Rattle.server_removals.specs.Removals.{LooksAtOrphans}

-- the bytes and the size of a file
abbrev pub touched : Ino → List (Ino × Class)
touched ino = (ino, Data) ∷ (ino, Attr) ∷ []

-- such holds may be asked
pub holders-askable : (t : Table) (ino : Ino) → AreAskable (touchers_of t (touched ino))
holders-askable t ino = touchers_askable t (λ i. false) (touched ino) (λ touch among. All-contains OfFile (touched ino) touch of-files among)
  where
    OfFile : Ino × Class → Type 0
    OfFile touch = is_of_directory touch.1 ≡ false

    of-files : All OfFile (touched ino)
    of-files = All-cons OfFile (ino, Data) ((ino, Attr) ∷ []) refl (All-cons OfFile (ino, Attr) [] refl (All-nil OfFile))

-- what is made of items that are so is so
module _ {X Y : Type 0} (f : X → Option Y) (P : X → Type 0) (Q : Y → Type 0) (each : (x : X) (y : Y) → P x → f x ≡ Some y → Q y) where
  gathered-in : (xs : List X) → All P xs → All Q (filter_map f xs)
  gathered-in [] ps = All-nil Q
  gathered-in (x ∷ xs) ps = by (f x) refl (gathered-in xs (All-tail P x xs ps))
    where
      by : (o : Option Y) → f x ≡ o → All Q (filter_map f xs) → All Q (cons_option o (filter_map f xs))
      by None e later = later
      by (Some y) e later = All-cons Q y (filter_map f xs) (each x y (All-head P x xs ps) e) later

-- they are of clients of the cluster, and of an inode of the volume
client-within : (n : ℕ) → n ≤ 16 → All (λ (c : ClientId). c.0 < 16) (clients_below n)
unfolding clients_below
client-within zero le = All-nil (λ (c : ClientId). c.0 < 16)
client-within (suc n) le = All-push (λ (c : ClientId). c.0 < 16) (clients_below n) (record { 0 = n }) (client-within n (omega arith)) (omega arith)

pub holders-within : (t : Table) (ino : Ino) → ino.0 < 512 → All IsWithin (touchers_of t (touched ino))
holders-within t ino lt =
    All-append IsWithin (filter_map (toucher_of t (ino, Data)) (clients_below 16)) (filter_map (toucher_of t (ino, Attr)) (clients_below 16) ++ []) (of-class Data)
    (All-append IsWithin (filter_map (toucher_of t (ino, Attr)) (clients_below 16)) [] (of-class Attr) (All-nil IsWithin))
  where
    one : (cls : Class) (c : ClientId) (b : Blocker) → c.0 < 16 → toucher_of t (ino, cls) c ≡ Some b → IsWithin b
    one cls c b client e = by (is_held (held_of t c ino cls)) e
      where
        by : (held : Bool) → (if held then Some (record { client = c; ino = ino; «class» = cls; asked = Nothing }) else None) ≡ Some b → IsWithin b
        by false f = absurd (cc)
        by true f =
            let is : ◌≡◌ {A = Blocker} (record { client = c; ino = ino; «class» = cls; asked = Nothing }) b = cc in
            subst IsWithin is (record { client = client; ino = lt })

    of-class : (cls : Class) → All IsWithin (filter_map (toucher_of t (ino, cls)) (clients_below 16))
    of-class cls = gathered-in (toucher_of t (ino, cls)) (λ (c : ClientId). c.0 < 16) IsWithin (one cls) (clients_below 16) (client-within 16 (omega arith))

-- the holders that a desk shows are the law's, and so are the Revokes for them
pub holders-are : (desk : DeskValue) (server : ServerState) (ino : Ino) → IsLike desk server → touchers_of desk.collecting.table (touched ino) ≡ holders_of server (Some ino)
holders-are desk server ino like = holders (with_desk desk server.volume server.sectors) server like (Some ino)

revokes-are : (desk : DeskValue) (server : ServerState) (ino : Ino) (bs : List Blocker) → bs ≡ touchers_of desk.collecting.table (touched ino) → IsLike desk server
    → revokes_of desk.asked bs ≡ revokes_of server.asked (holders_of server (Some ino))
revokes-are desk server ino bs is like =
    ap (revokes_of desk.asked) (is ∙ holders-are desk server ino like)
    ∙ (λ i. revokes_by (asked-path desk.asked server.asked like.asked i) (holders_of server (Some ino)))

-- once Revokes are told for some holds, none is left
none-left : (bs : List Blocker) (sents : List (ClientId × Revoke)) (asked : List (HoldKey × Hold)) → revokes_of asked bs ≡ sents → revokes_of (tell_all sents asked) bs ≡ []
none-left bs [] asked e = e
none-left bs (sent ∷ rest) asked e = none-left bs rest (asked_in sent.0 sent.1.ino sent.1.items asked) (told-once asked bs sent rest e)

told-all : (start : ServerState) (view : ℕ) (before : List Act) (bs : List Blocker) → next_revoke (after_acts start (revoking view (revokes_of (after_acts start before).asked bs) before)) bs ≡ None
told-all start view before bs =
    let base = after_acts start before in
    subst (λ (s : ServerState). next_revoke s bs ≡ None) (sym (tells-alone start view (revokes_of base.asked bs) before))
    (ap first_of (none-left bs (revokes_of base.asked bs) base.asked refl))

pub asks-all : (start : ServerState) (view : ℕ) (before after : List Act) (desk : DeskValue) (ino : Ino) (bs : List Blocker) → bs ≡ touchers_of desk.collecting.table (touched ino)
    → after ≡ revoking view (revokes_of desk.asked bs) before → IsLike desk (after_acts start before) → next_revoke (after_acts start after) (holders_of (after_acts start before) (Some ino)) ≡ None
asks-all start view before after desk ino bs is told like =
    let base = after_acts start before in
    ap (λ (acts : List Act). next_revoke (after_acts start acts) (holders_of base (Some ino))) (told ∙ ap (λ (sents : List (ClientId × Revoke)). revoking view sents before) (revokes-are desk base ino bs is like))
    ∙ told-all start view before (holders_of base (Some ino))

-- where orphans are looked at, each may be told
pub asks-well : (o : Occasion) (start : ServerState) (view : ℕ) (before : List Act) (desk : DeskValue) (ino : Ino) (bs : List Blocker) → bs ≡ touchers_of desk.collecting.table (touched ino)
    → IsLike desk (after_acts start before) → LooksAtOrphans o start → IsTrue (is_admitted (after_acts start before)) → HasReserve (after_acts start before) → deserted (after_acts start before) ≡ Some ino
    → EachAct start (ActsWell o start) before → EachAct start (ActsWell o start) (revoking view (revokes_of desk.asked bs) before)
asks-well o start view before desk ino bs is like looks admitted reserve least well =
    let base = after_acts start before in
    subst (λ (sents : List (ClientId × Revoke)). EachAct start (ActsWell o start) (revoking view sents before))
    (ap (λ (orphan : Option Ino). revokes_of base.asked (holders_of base orphan)) least ∙ sym (revokes-are desk base ino bs is like))
    (orphans-told o start before view looks-at admitted reserve well)
  where
    looks-at : IsTrue (looks_at_orphans o start)
    looks-at = λ i. looks.tick i && looks.admitted i && is_none (looks.none_due i)

-- where nobody holds any, the orphan is freed; else all are asked
pub frees-none : (start end : ServerState) (acts : List Act) (ino : Ino) (bs : List Blocker) → bs ≡ [] → HasDone (IsReapOf ino) acts → FreesOrAsks start end acts ino bs
frees-none start end acts ino bs none done = subst (FreesOrAsks start end acts ino) (sym none) done

pub asks-some : (start end : ServerState) (acts : List Act) (ino : Ino) (bs : List Blocker) → (length bs == 0) ≡ false → next_revoke end bs ≡ None → FreesOrAsks start end acts ino bs
asks-some start end acts ino [] some none = absurd (true≢false some)
asks-some start end acts ino (b ∷ bs) some none = none

-- before the first act the law's server is that of the start, and nothing was removed
pub at-start : (view : ℕ) (start : ServerState) (acts : List DraftAct) → acts ≡ [] → after_acts start (acts_of view acts) ≡ start
unfolding acts_of after_acts
at-start view start acts none = ap (λ (done : List DraftAct). after_acts start (acts_of view done)) none

pub none-removed : (view : ℕ) (acts : List DraftAct) → acts ≡ [] → has_removed (acts_of view acts) ≡ false
unfolding acts_of
none-removed view acts none = ap (λ (done : List DraftAct). has_removed (acts_of view done)) none

-- a list that is empty has nobody
pub nobody-holds : (desk : DeskValue) (server : ServerState) (ino : Ino) (bs : List Blocker) → bs ≡ touchers_of desk.collecting.table (touched ino) → (length bs == 0) ≡ true → IsLike desk server → holders_of server (Some ino) ≡ []
nobody-holds desk server ino [] is none like = sym (is ∙ holders-are desk server ino like)
nobody-holds desk server ino (b ∷ bs) is none like = absurd (never (eqb-true (length (b ∷ bs)) 0 none))
  where
    never : {n : ℕ} → suc n ≡ 0 → ⊥
    never e = omega (arith, e)

-- the same of the server at the start
pub frees-at-start : (view : ℕ) (start : ServerState) (old : List DraftAct) (end : ServerState) (acts : List Act) (desk : DeskValue) (ino : Ino) (bs : List Blocker) → bs ≡ touchers_of desk.collecting.table (touched ino)
    → (length bs == 0) ≡ true → IsLike desk (after_acts start (acts_of view old)) → old ≡ [] → HasDone (IsReapOf ino) acts → FreesOrAsks start end acts ino (holders_of start (Some ino))
frees-at-start view start old end acts desk ino bs is empty like none done =
    frees-none start end acts ino (holders_of start (Some ino))
    (ap (λ (s : ServerState). holders_of s (Some ino)) (sym (at-start view start old none)) ∙ nobody-holds desk (after_acts start (acts_of view old)) ino bs is empty like) done

pub asks-at-start : (view : ℕ) (start : ServerState) (old : List DraftAct) (end : ServerState) (acts : List Act) (desk : DeskValue) (ino : Ino) (bs : List Blocker) → bs ≡ touchers_of desk.collecting.table (touched ino)
    → (length bs == 0) ≡ false → IsLike desk (after_acts start (acts_of view old)) → old ≡ [] → next_revoke end (holders_of (after_acts start (acts_of view old)) (Some ino)) ≡ None
    → FreesOrAsks start end acts ino (holders_of start (Some ino))
asks-at-start view start old end acts desk ino bs is some like none asked =
    let same : holders_of start (Some ino) ≡ holders_of (after_acts start (acts_of view old)) (Some ino) = ap (λ (s : ServerState). holders_of s (Some ino)) (sym (at-start view start old none)) in
    asks-some start end acts ino (holders_of start (Some ino))
    (ap (λ (cs : List Blocker). length cs == 0) (same ∙ sym (is ∙ holders-are desk (after_acts start (acts_of view old)) ino like)) ∙ some)
    (ap (next_revoke end) same ∙ asked)

-- nothing but Revokes is told
pub tells-revokes : (view client : ℕ) (test : Message → Bool) → ((revoke : Revoke) → test (Asks revoke) ≡ false) → (sents : List (ClientId × Revoke)) (before : List Act)
    → was_told client test (revoking view sents before) ≡ was_told client test before
unfolding revoking
tells-revokes view client test other [] before = refl
tells-revokes view client test other (sent ∷ rest) before =
    tells-revokes view client test other rest (Tells (record { client = sent.0.0; view = view; way = Down }) (Asks sent.1) ∷ before)
    ∙ ap (λ (b : Bool). if nat_eq sent.0.0 client && b then true else was_told client test before) (other sent.1)
    ∙ passed (nat_eq sent.0.0 client)
  where
    passed : (b : Bool) → (if b && false then true else was_told client test before) ≡ was_told client test before
    passed true = refl
    passed false = refl
